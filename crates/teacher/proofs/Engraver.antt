-- What an engraver can check on the page: where every beat is kept, a member on tablature that ends a tie has the fret
-- last shown on its string.
use Rattle.std.specs.Prelude.{None, Option, Some}
use Prim.Native.Nat.{ℕ, ◌-◌}
use mathlib.Core.Path.{◌≡◌, refl, sym, ap, ◌∙◌}
use mathlib.Core.Bool.{Bool, true, false, false≢true}
use mathlib.Core.List.{List, [], ◌∷◌, map, reverse, reverse_aux}
use Rattle.format.specs.Prog.{ok, run}
use Rattle.format.specs.Text.{pick}
use Rattle.format.specs.Yields.{Bytes}
use Rattle.model.specs.declared.RowPlace.{RowPlace}
use Rattle.model.specs.declared.TabPosition.{TabPosition}
use Rattle.score.specs.declared.Fretboard.{Fretboard}
use Rattle.score.specs.Sounding.{note_at}
use Rattle.score.specs.Members.{Keyed, Graced, graces}
use Rattle.score.specs.Page.{keeping}
use Rattle.score.specs.Reading.{Score}
use Rattle.score.specs.Score.{lists, none, scored}
use Rattle.refine.proofs.All.{All, all_weaker}
use Rattle.told.specs.Told.{TrackTold, BeatTold, Event, enters, plays}
use Rattle.told.proofs.Made.{made_of_told}
use Rattle.teacher.specs.Teacher.{or_own, board_in, last_read_in, Seen, SeenRow, last_shown}
use Rattle.teacher.specs.Teacher.{KeptBeat, AllKept, SameFret, TiesShown}
use Rattle.teacher.proofs.Walk.{seen_note, seen_grace, graces_seen, notes_of, place_of, graces_read, chord_read}
use Rattle.teacher.proofs.Walk.{rows_read, page_of, page_more}
use Rattle.teacher.proofs.Notes.{tie_takes, NoteIn, notes_in_lem}
use Rattle.teacher.proofs.File.{all_back, file_walked}
use Rattle.teacher.proofs.Before.{Each, each_append}
use Rattle.teacher.proofs.Finished.{RowHas, member_has}
use Rattle.teacher.proofs.Shown.{below, graces_pass, shown_is_read}

-- ---- what is to be shown
abbrev TieShown : List SeenRow → RowPlace → Seen → Type 0
TieShown before place m =
    m.tied ≡ true → (string fret : ℕ) → m.position ≡ Some (record { string = string; fret = fret })
    → SameFret fret (last_shown place.track place.voice string before)

abbrev RowShown : List SeenRow → SeenRow → Type 0
RowShown before r = RowHas TieShown before r

-- ---- a position on tablature tells its string and its fret
abbrev fretted : ℕ → ℕ → Option TabPosition
fretted string fret = Some (record { string = string; fret = fret })

abbrev on_tablature : Option TabPosition → Bool
on_tablature None = false
on_tablature (Some at) = true

abbrev string_of : Option TabPosition → ℕ
string_of None = 0
string_of (Some at) = at.string

abbrev fret_at : Option TabPosition → ℕ
fret_at None = 0
fret_at (Some at) = at.fret

own_or_last : (l : Option ℕ) (own : ℕ) → SameFret (or_own l own) l
own_or_last None own = tt
own_or_last (Some f) own = refl

-- ---- the rows of one beat, where those before show what was read
module _ (tracks : List TrackTold) (b : BeatTold) (es : List Event) (before : List SeenRow) (kept : All KeptBeat es)
    (is : before ≡ reverse (page_of tracks es)) where
  abbrev board : Fretboard
  board = board_in tracks b.track

  abbrev above : List SeenRow
  above = reverse_aux (graces_read tracks b es) before

  -- the fret last shown on a note's string is the fret last read on it
  last_shown_lem : (m : Seen) (f : NoteIn tracks b es m) → board.tablature ≡ true
      → last_shown b.track b.voice (board.strings.count - f.string) above
      ≡ last_read_in tracks b.track b.voice f.string es
  last_shown_lem m f tab =
      let there = below board b f.string f.sounding in
      graces_pass tracks b.track b.voice f.string tab f.seven there (place_of b) board
      (graces (notes_of tracks b es)) before
      ∙ rw is (shown_is_read tracks b.track b.voice f.string tab f.seven there es kept)

  note_shown : (m : Seen) → NoteIn tracks b es m → TieShown above (place_of b) m
  note_shown m f tied string fret p = go board.tablature refl (sym p ∙ f.position)
    where
      go : (t : Bool) → board.tablature ≡ t
          → fretted string fret ≡ pick t (fretted (board.strings.count - f.string) f.fret) None
          → SameFret fret (last_shown b.track b.voice string above)
      go false tab e = absurd (false≢true (sym (ap on_tablature e)))
      go true tab e =
          let at : string ≡ board.strings.count - f.string = ap string_of e in
          let last : (Option ℕ) = last_read_in tracks b.track b.voice f.string es in
          let taken : fret ≡ or_own last (note_at b.beat f.string).read.fret =
          ap fret_at e ∙ f.last ∙ tie_takes last (note_at b.beat f.string).read (sym f.tied ∙ tied) in
          rw (at, last_shown_lem m f tab, taken) (own_or_last last (note_at b.beat f.string).read.fret)

  graces_shown : (gs : List Graced) → Each RowShown before (graces_seen (place_of b) board gs)
  graces_shown [] = tt
  graces_shown (g ∷ gs) = (each (g ∷ gs), tt)
    where
      each : (gs : List Graced) → All (TieShown before (place_of b)) (map (seen_grace board) gs)
      each [] = tt
      each (g ∷ gs) = (λ e. absurd (false≢true e), each gs)

  rows_shown : Each RowShown before (rows_read tracks b es)
  rows_shown =
      let xs : List Keyed = notes_of tracks b es in
      each_append RowShown before (graces_read tracks b es) (chord_read tracks b es ∷ [])
      (graces_shown (graces xs)) (
        all_weaker (NoteIn tracks b es) (TieShown above (place_of b)) note_shown (map (seen_note board) xs)
            (notes_in_lem tracks b es),
        tt,
      )

page_shown : (tracks : List TrackTold) (es : List Event) → All KeptBeat es → Each RowShown [] (page_of tracks es)
page_shown tracks [] q = tt
page_shown tracks (enters bar ∷ es) q = page_shown tracks es q.1
page_shown tracks (plays b ∷ es) q =
    rw (page_more tracks b es q.0)
    (each_append RowShown [] (page_of tracks es) (rows_read tracks b es) (page_shown tracks es q.1)
    (rows_shown tracks b es (reverse (page_of tracks es)) q.1 refl))

-- ---- the theorem

-- of any file that is read and whose beats are all kept
pub ties_shown : (s : List ℕ) → Bytes s → (x : Score) (n : ℕ) → run scored s 0 ≡ ok x n → AllKept s n → TiesShown x
unfolding scored
ties_shown s bytes x n e kept =
    let m = made_of_told (keeping lists none) s bytes x n e in
    let tracks : List TrackTold = m.file.bars.staves.tracks in
    let events : List Event = reverse m.file.bars.events in
    let all : All KeptBeat events = all_back KeptBeat m.file.bars.events [] (kept m.file m.tells) tt in
    record {
      ties = λ k j d h i.
          member_has TieShown tracks events x (file_walked s x n m) (page_shown tracks events all) k d h j i;
    }
