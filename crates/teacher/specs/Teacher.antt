-- Which fret a member that ends a tie must have, by what was read, and what an engraver sees of it on the page.
use Rattle.std.specs.Prelude.{ℕ, ◌+◌, ◌<◌, ◌≡◌, Bool, true, false, ◌&&◌, List, [], ◌∷◌, ◌++◌, map, reverse, eqb, length, get_or, take, drop, None, Option, Some}
use Rattle.format.specs.Prog.{ok, run}
use Rattle.format.specs.Text.{pick}
use Rattle.model.specs.declared.Member.{Member}
use Rattle.model.specs.declared.RowPlace.{RowPlace}
use Rattle.model.specs.declared.Row.{Row}
use Rattle.model.specs.declared.RowKind.{RowKind}
use Rattle.model.specs.declared.RowKind.TheVariants.{Grace, Beat}
use Rattle.model.specs.declared.Span.{Span}
use Rattle.model.specs.declared.TabPosition.{TabPosition}
use Rattle.curve.specs.Key.{note_key}
use Rattle.track.specs.Track.{no_track}
use Rattle.note.specs.declared.NoteRead.{NoteRead}
use Rattle.beat.specs.Beat.{BeatIs}
use Rattle.score.specs.declared.Fretboard.{Fretboard}
use Rattle.score.specs.Sounding.{fret_of, sounds_on, sounds, note_at}
use Rattle.score.specs.Members.{position_of}
use Rattle.score.specs.Page.{board_of}
use Rattle.score.specs.Reading.{Score}
use Rattle.score.specs.Score.{no_member}
use Rattle.refine.proofs.All.{All}
use Rattle.told.specs.Told.{Told, told, TrackTold, BeatTold, Event, enters, plays}

-- ---- the fret last read on a string

-- a beat is of this voice of this track
abbrev pub of_voice : (track voice : ℕ) → BeatTold → Bool
of_voice track voice b = eqb b.track track && eqb b.voice voice

-- a beat of this voice of this track in which this string sounds; `strings` is the number of strings of the track
abbrev pub plays_on : (strings track voice string : ℕ) → BeatTold → Bool
plays_on strings track voice string b = of_voice track voice b && sounds_on strings b.beat.strings string

-- of what was read before, the latest first: the fret of the last beat of this voice of this track in which this
-- string sounds. A tied note there had taken the fret last read before it. Nothing else is looked at: no other string,
-- voice or track, no bar line, and not whether a beat is kept
abbrev pub last_read : (strings track voice string : ℕ) → List Event → Option ℕ
last_read strings track voice string [] = None
last_read strings track voice string (enters bar ∷ earlier) = last_read strings track voice string earlier
last_read strings track voice string (plays b ∷ earlier) =
    pick (plays_on strings track voice string b)
    (Some (fret_of (last_read strings track voice string earlier) (note_at b.beat string).read))
    (last_read strings track voice string earlier)

-- the fret last read, or the note's own where there is none
abbrev pub or_own : Option ℕ → (own : ℕ) → ℕ
or_own None own = own
or_own (Some f) own = f

-- the notes read on one string of a voice of a track, the latest first
abbrev pub notes_on : (strings track voice string : ℕ) → List Event → List NoteRead
notes_on strings track voice string [] = []
notes_on strings track voice string (enters bar ∷ earlier) = notes_on strings track voice string earlier
notes_on strings track voice string (plays b ∷ earlier) =
    pick (plays_on strings track voice string b)
    ((note_at b.beat string).read ∷ notes_on strings track voice string earlier)
    (notes_on strings track voice string earlier)

-- ---- the page

-- what an engraver sees of a member: its key, its string and fret on tablature, and whether it ends a tie
pub record Seen : Type 0 where
  pub key : ℕ
  pub position : Option TabPosition
  pub tied : Bool

-- a member as it is seen
abbrev pub seen : Member → Seen
seen m = record { key = m.key; position = m.position; tied = m.ties.end }

-- of a row: where it stands, whether it is a beat's or a grace's, and its members
pub record SeenRow : Type 0 where
  pub place : RowPlace
  pub kind : RowKind
  pub members : List Seen

-- the members of a row among all
abbrev pub in_span : List Seen → Span → List Seen
in_span ms s = take s.count (drop s.first ms)

-- a row as it is seen
abbrev pub seen_row : List Seen → Row → SeenRow
seen_row ms r = record { place = r.place; kind = r.kind; members = in_span ms r.members }

-- all rows of the tables, in their order
abbrev pub page : List Row → List Member → List SeenRow
page rows ms = map (seen_row (map seen ms)) rows

-- a row of a beat, not of its graces
abbrev pub no_grace : RowKind → Bool
no_grace Grace = false
no_grace Beat = true

-- how many rows are a beat's
abbrev pub beat_rows : List SeenRow → ℕ
beat_rows [] = 0
beat_rows (r ∷ rs) = pick (no_grace r.kind) (beat_rows rs + 1) (beat_rows rs)

-- how many beats are kept
abbrev pub beats_kept : List Event → ℕ
beats_kept [] = 0
beats_kept (enters bar ∷ es) = beats_kept es
beats_kept (plays b ∷ es) = pick b.beat.head.kept (beats_kept es + 1) (beats_kept es)

-- ---- a member that ends a tie, by what was read

-- what stands for a track that is not there
abbrev pub no_track_told : TrackTold
no_track_told = record { number = 0; track = no_track }

-- what the notes of a track are played on
abbrev pub board_in : List TrackTold → (track : ℕ) → Fretboard
board_in tracks track = board_of (get_or tracks track no_track_told).track

-- the fret last read on a string, by the strings that its track has
abbrev pub last_read_in : List TrackTold → (track voice string : ℕ) → List Event → Option ℕ
last_read_in tracks track voice string earlier = last_read (board_in tracks track).strings.count track voice string earlier

-- the key of a string at a fret
abbrev pub key_on : Fretboard → (string fret : ℕ) → ℕ
key_on board string fret = note_key board.percussion fret (get_or board.strings.tunings string 0) board.capo

-- a beat is one of those read, with what was read before it: all of it the latest first
pub record ReadAfter (events : List Event) (b : BeatTold) (earlier : List Event) : Type 0 where
  pub later : List Event
  pub is : events ≡ later ++ (plays b ∷ earlier)

-- a beat in the bar, track and voice of a row
abbrev pub beat_at : RowPlace → BeatIs → BeatTold
beat_at place b = record { bar = place.bar; track = place.track; voice = place.voice; beat = b }

-- a member that ends a tie, in a row at this place: its beat was read in the row's own bar, track and voice, and was
-- kept; as many kept beats were read before it as beats' rows stand before the row. A string sounds in it whose note is
-- tied, and the member stands on that string, at the fret last read on it in that voice of that track, or at the note's
-- own where none was read. Rows before and events are said from the latest back
pub record EndsTie (tracks : List TrackTold) (events : List Event) (before : List SeenRow) (place : RowPlace) (m : Seen)
    : Type 0 where
  pub beat : BeatIs
  pub earlier : List Event
  pub read : ReadAfter events (beat_at place beat) earlier
  pub kept : beat.head.kept ≡ true
  pub number : beat_rows before ≡ beats_kept earlier
  pub string : ℕ
  pub sounding : sounds (board_in tracks place.track) beat string ≡ true
  pub tie : (note_at beat string).read.tie ≡ true
  pub fret : ℕ
  pub last : fret
      ≡ or_own (last_read_in tracks place.track place.voice string earlier) (note_at beat string).read.fret
  pub position : m.position ≡ position_of (board_in tracks place.track) string fret
  pub key : m.key ≡ key_on (board_in tracks place.track) string fret

-- ---- over the tables of a file that was read to its end

-- member j of a row
abbrev pub member_at : Score → Row → (j : ℕ) → Member
member_at x row j = get_or x.bars.members (row.members.first + j) no_member

-- row k, where there is one
abbrev pub row_at : Score → (k : ℕ) → (none : Row) → Row
row_at x k none = get_or x.bars.rows k none

-- the other way round: a tied note of a kept beat, on a string that sounds, is a member that ends a tie; its row is that
-- beat's, and it stands where it must. `none` is what stands for a row that is not there
pub record TieEntered (x : Score) (tracks : List TrackTold) (b : BeatTold) (earlier : List Event) (string : ℕ)
    (none : Row) : Type 0 where
  pub row : ℕ
  pub there : row < length x.bars.rows
  pub place : (row_at x row none).place ≡ record { bar = b.bar; track = b.track; voice = b.voice }
  pub number : beat_rows (reverse (take row (page x.bars.rows x.bars.members))) ≡ beats_kept earlier
  pub member : ℕ
  pub among : member < (row_at x row none).members.count
  pub ends : (member_at x (row_at x row none) member).ties.end ≡ true
  pub fret : ℕ
  pub last : fret
      ≡ or_own (last_read_in tracks b.track b.voice string earlier) (note_at b.beat string).read.fret
  pub position : (member_at x (row_at x row none) member).position ≡ position_of (board_in tracks b.track) string fret
  pub key : (member_at x (row_at x row none) member).key ≡ key_on (board_in tracks b.track) string fret

-- what a file tells, and every member that ends a tie explained by it: "a member that ends a tie has the fret last read
-- on the same string of the same voice of the same track, over bar lines, rests and unkept beats, or its own read fret
-- where there is none; no other string, voice or track has a part in it"; and no tied note of a kept beat is lost
pub record TiesTold (s : List ℕ) (x : Score) (n : ℕ) : Type 0 where
  pub file : Told
  pub tells : run told s 0 ≡ ok file n
  pub ties : (k j : ℕ) (none : Row) → k < length x.bars.rows → j < (row_at x k none).members.count
      → (member_at x (row_at x k none) j).ties.end ≡ true
      → EndsTie file.bars.staves.tracks (reverse file.bars.events)
      (reverse (take k (page x.bars.rows x.bars.members))) (row_at x k none).place
      (seen (member_at x (row_at x k none) j))
  pub entered : (b : BeatTold) (earlier : List Event) → ReadAfter (reverse file.bars.events) b earlier
      → b.beat.head.kept ≡ true → (string : ℕ) → string < 7
      → sounds (board_in file.bars.staves.tracks b.track) b.beat string ≡ true
      → (note_at b.beat string).read.tie ≡ true
      → (none : Row) → TieEntered x file.bars.staves.tracks b earlier string none

-- ---- the same on the page, as an engraver sees it: over the finished tables alone

-- the fret that members show on a string, by the string's number on the page
abbrev pub shown_at : (string : ℕ) → Option TabPosition → Option ℕ → Option ℕ
shown_at string None others = others
shown_at string (Some at) others = pick (eqb at.string string) (Some at.fret) others

-- of all members of a row
abbrev pub shown_on : (string : ℕ) → List Seen → Option ℕ
shown_on string [] = None
shown_on string (m ∷ ms) = shown_at string m.position (shown_on string ms)

-- a row of a beat of this voice of this track
abbrev pub row_of : (track voice : ℕ) → SeenRow → Bool
row_of track voice r = no_grace r.kind && (eqb r.place.track track && eqb r.place.voice voice)

-- what a row shows, or what was shown before it
abbrev pub or_earlier : Option ℕ → Option ℕ → Option ℕ
or_earlier None earlier = earlier
or_earlier (Some f) earlier = Some f

-- going back over the rows, the latest first: the fret on this string in the last row of a beat of this voice of this
-- track that has a member on it
abbrev pub last_shown : (track voice string : ℕ) → List SeenRow → Option ℕ
last_shown track voice string [] = None
last_shown track voice string (r ∷ before) =
    pick (row_of track voice r)
    (or_earlier (shown_on string r.members) (last_shown track voice string before))
    (last_shown track voice string before)

-- a beat is kept
abbrev pub KeptBeat : Event → Type 0
KeptBeat (enters bar) = Unit {0}
KeptBeat (plays b) = b.beat.head.kept ≡ true

-- every beat of the file is kept
abbrev pub AllKept : (s : List ℕ) (n : ℕ) → Type 0
AllKept s n = (file : Told) → run told s 0 ≡ ok file n → All KeptBeat file.bars.events

-- the fret is the one last shown, where one was
abbrev pub SameFret : (fret : ℕ) → Option ℕ → Type 0
SameFret fret None = Unit {0}
SameFret fret (Some f) = fret ≡ f

-- what an engraver can check on the page: a member on tablature that ends a tie has the fret last shown on its string,
-- in the rows before its own of the same voice of the same track, where one of them shows a fret there
pub record TiesShown (x : Score) : Type 0 where
  pub ties : (k j : ℕ) (none : Row) → k < length x.bars.rows → j < (row_at x k none).members.count
      → (member_at x (row_at x k none) j).ties.end ≡ true
      → (string fret : ℕ) → (member_at x (row_at x k none) j).position ≡ Some (record { string = string; fret = fret })
      → SameFret fret
      (last_shown (row_at x k none).place.track (row_at x k none).place.voice string
      (reverse (take k (page x.bars.rows x.bars.members))))
