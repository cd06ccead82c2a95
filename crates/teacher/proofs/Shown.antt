-- Where every beat is kept, the fret last shown on a string of tablature is the fret last read on it.
use Rattle.std.specs.Prelude.{None, Option, Some}
use Prim.Native.Nat.{ℕ, ◌-◌, ◌<◌}
use native.Mathlib.Omega.{arith}
use mathlib.Core.Path.{◌≡◌, refl, sym, ap, subst, ◌∙◌}
use mathlib.Core.Bool.{Bool, true, false, ◌&&◌, false≢true}
use mathlib.Core.List.{List, [], ◌∷◌, map, reverse, reverse_aux}
use mathlib.Core.Logic.{inl, inr}
use borrow.Author.Tests.{eqb-true, eq-eqb, ltb-true}
use lib.Dec.{eqb}
use Rattle.format.specs.Prog.{has}
use Rattle.format.specs.Text.{pick}
use Rattle.model.specs.declared.RowPlace.{RowPlace}
use Rattle.note.specs.Notes.{string_bit}
use Rattle.score.specs.declared.Fretboard.{Fretboard}
use Rattle.score.specs.Sounding.{sounds}
use Rattle.score.specs.Members.{Graced, graces}
use Rattle.refine.proofs.All.{All}
use Rattle.told.specs.Told.{TrackTold, BeatTold, Event, enters, plays}
use Rattle.teacher.specs.Teacher.{of_voice, board_in, last_read_in, Seen, SeenRow, shown_at, shown_on, or_earlier, last_shown, KeptBeat}
use Rattle.teacher.proofs.Walk.{seen_note, graces_seen, notes_of, place_of, graces_read, chord_read, rows_read}
use Rattle.teacher.proofs.Walk.{page_of, rows_back, page_back}
use Rattle.teacher.proofs.Notes.{NoteIn, notes_in_lem, fret_in, Somewhere, IsString, string_somewhere}

first : (a b : Bool) → (a && b) ≡ true → a ≡ true
first true b e = refl
first false b e = absurd (false≢true e)

second : (a b : Bool) → (a && b) ≡ true → b ≡ true
second true b e = e
second false b e = absurd (false≢true e)

-- a string that sounds is one of the board's
pub below : (board : Fretboard) (b : BeatTold) (i : ℕ) → sounds board b.beat i ≡ true → i < board.strings.count
below board b i e = ltb-true i board.strings.count (second (has b.beat.strings (string_bit i)) _ e)

-- ---- the rows of one beat
module _ (tracks : List TrackTold) (b : BeatTold) (earlier : List Event)
    (tablature : (board_in tracks b.track).tablature ≡ true) (i : ℕ)
    (there : i < (board_in tracks b.track).strings.count) where
  abbrev board : Fretboard
  board = board_in tracks b.track

  abbrev number : ℕ
  number = board.strings.count - i

  -- a note of another string stands elsewhere
  note_shows : (m : Seen) (f : NoteIn tracks b earlier m) (others : Option ℕ)
      → shown_at number m.position others
      ≡ pick (eqb (board.strings.count - f.string) number) (Some f.fret) others
  note_shows m f others = rw (f.position, tablature)

  same_string : (m : Seen) (f : NoteIn tracks b earlier m) → eqb (board.strings.count - f.string) number ≡ true
      → f.string ≡ i
  same_string m f e =
      omega (arith, eqb-true (board.strings.count - f.string) number e, below board b f.string f.sounding)

  shown_there : (ms : List Seen) → All (NoteIn tracks b earlier) ms
      → (seven : i < 7) (on : sounds board b.beat i ≡ true)
      → Somewhere (IsString tracks b earlier i seven on) ms → shown_on number ms ≡ Some (fret_in tracks b earlier i)
  shown_there [] q seven on w = absurd w
  shown_there (m ∷ ms) q seven on (inl e) =
      rw (ap (λ (y : Seen). y.position) e, tablature, eq-eqb number number refl)
  shown_there (m ∷ ms) q seven on (inr w) =
      note_shows m q.0 (shown_on number ms)
      ∙ go (eqb (board.strings.count - q.0.string) number) refl (shown_there ms q.1 seven on w)
    where
      go : (t : Bool) → eqb (board.strings.count - q.0.string) number ≡ t
          → shown_on number ms ≡ Some (fret_in tracks b earlier i)
          → pick t (Some q.0.fret) (shown_on number ms) ≡ Some (fret_in tracks b earlier i)
      go true e h = ap Some (q.0.last ∙ ap (fret_in tracks b earlier) (same_string m q.0 e))
      go false e h = h

  shown_none : (ms : List Seen) → All (NoteIn tracks b earlier) ms → sounds board b.beat i ≡ false
      → shown_on number ms ≡ None
  shown_none [] q off = refl
  shown_none (m ∷ ms) q off =
      note_shows m q.0 (shown_on number ms)
      ∙ go (eqb (board.strings.count - q.0.string) number) refl (shown_none ms q.1 off)
    where
      go : (t : Bool) → eqb (board.strings.count - q.0.string) number ≡ t → shown_on number ms ≡ None
          → pick t (Some q.0.fret) (shown_on number ms) ≡ None
      go true e h =
          let on : sounds board b.beat i ≡ true = rw (same_string m q.0 e) at q.0.sounding in
          absurd (false≢true (sym off ∙ on))
      go false e h = h

  chord_shows : (seven : i < 7) (before : Option ℕ)
      → or_earlier (shown_on number (map (seen_note board) (notes_of tracks b earlier))) before
      ≡ pick (sounds board b.beat i) (Some (fret_in tracks b earlier i)) before
  chord_shows seven before = go (sounds board b.beat i) refl
    where
      go : (t : Bool) → sounds board b.beat i ≡ t
          → or_earlier (shown_on number (map (seen_note board) (notes_of tracks b earlier))) before
          ≡ pick t (Some (fret_in tracks b earlier i)) before
      go true e = rw (shown_there _ (notes_in_lem tracks b earlier) seven e (string_somewhere tracks b earlier i seven e))
      go false e = rw (shown_none _ (notes_in_lem tracks b earlier) e)

-- ---- the rows of a voice of a track, on a string of tablature
module _ (tracks : List TrackTold) (track voice i : ℕ) (tablature : (board_in tracks track).tablature ≡ true)
    (seven : i < 7) (there : i < (board_in tracks track).strings.count) where
  abbrev string : ℕ
  string = (board_in tracks track).strings.count - i

  -- a grace row is passed over
  pub graces_pass : (place : RowPlace) (board : Fretboard) (gs : List Graced) (before : List SeenRow)
      → last_shown track voice string (reverse_aux (graces_seen place board gs) before)
      ≡ last_shown track voice string before
  graces_pass place board [] before = refl
  graces_pass place board (g ∷ gs) before = refl

  module _ (b : BeatTold) (es : List Event) (before : List SeenRow)
      (same : last_shown track voice string before ≡ last_read_in tracks track voice i es) where
    abbrev last : Option ℕ
    last = last_read_in tracks track voice i es

    -- what is seen on a string of a voice of a track after the beat is what was last read there
    abbrev SeenRead : (t v : ℕ) → Type 0
    SeenRead t v =
        or_earlier (shown_on ((board_in tracks t).strings.count - i) (chord_read tracks b es).members) (last_read_in tracks t v i es)
        ≡ last_read_in tracks t v i (plays b ∷ es)

    chord_read_lem : (t : Bool) → of_voice track voice b ≡ t
        → pick t (or_earlier (shown_on string (chord_read tracks b es).members) last) last
        ≡ last_read_in tracks track voice i (plays b ∷ es)
    chord_read_lem false e = rw e
    chord_read_lem true e =
        let t : eqb b.track track ≡ true = first (eqb b.track track) (eqb b.voice voice) e in
        let v : eqb b.voice voice ≡ true = second (eqb b.track track) (eqb b.voice voice) e in
        let at : track ≡ b.track = sym (eqb-true b.track track t) in
        let own : of_voice b.track b.voice b ≡ true = rw (eq-eqb b.track b.track refl, eq-eqb b.voice b.voice refl) in
        let read : SeenRead b.track b.voice =
        rw own
        (chord_shows tracks b es (rw at at tablature) i (rw at at there) seven
        (last_read_in tracks b.track b.voice i es)) in
        subst (λ (n : ℕ). SeenRead n voice) (eqb-true b.track track t)
        (subst (λ (n : ℕ). SeenRead b.track n) (eqb-true b.voice voice v) read)

    pub beat_shows : last_shown track voice string (reverse_aux (rows_read tracks b es) before)
        ≡ last_read_in tracks track voice i (plays b ∷ es)
    beat_shows =
        let passed : last_shown track voice string (reverse_aux (graces_read tracks b es) before) ≡ last =
        graces_pass (place_of b) (board_in tracks b.track) (graces (notes_of tracks b es)) before ∙ same in
        rw (rows_back tracks b es before, passed) (chord_read_lem (of_voice track voice b) refl)

  -- after all the events
  pub shown_is_read : (es : List Event) → All KeptBeat es
      → last_shown track voice string (reverse (page_of tracks es)) ≡ last_read_in tracks track voice i es
  shown_is_read [] q = refl
  shown_is_read (enters bar ∷ es) q = shown_is_read es q.1
  shown_is_read (plays b ∷ es) q =
      ap (last_shown track voice string) (page_back tracks b es q.0)
      ∙ beat_shows b es (reverse (page_of tracks es)) (shown_is_read es q.1)
