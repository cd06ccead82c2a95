-- The teacher's theorem: every member that ends a tie has the fret last read on its own string.
use Rattle.std.specs.Prelude.{Option}
use Prim.Native.Nat.{ℕ}
use mathlib.Core.Path.{◌≡◌, refl, sym, ap, ◌∙◌}
use mathlib.Core.Bool.{Bool, true, false, false≢true}
use mathlib.Core.List.{List, [], ◌∷◌, ◌++◌, map, reverse, reverse_aux}
use Rattle.format.specs.Prog.{ok, run}
use Rattle.format.specs.Text.{pick}
use Rattle.format.specs.Yields.{Bytes}
use Rattle.model.specs.declared.RowPlace.{RowPlace}
use Rattle.score.specs.declared.Fretboard.{Fretboard}
use Rattle.score.specs.Sounding.{note_at}
use Rattle.score.specs.Members.{Keyed, Graced, graces}
use Rattle.score.specs.Page.{keeping}
use Rattle.score.specs.Reading.{Score}
use Rattle.score.specs.Score.{lists, none, scored}
use Rattle.refine.proofs.All.{All, all_weaker}
use Rattle.told.specs.Told.{TrackTold, BeatTold, Event, enters, plays}
use Rattle.told.proofs.Made.{made_of_told}
use Rattle.teacher.specs.Teacher.{board_in, last_read_in, EndsTie, Seen, SeenRow}
use Rattle.teacher.specs.Teacher.{TiesTold}
use Rattle.teacher.proofs.Walk.{seen_note, seen_grace, graces_seen, notes_of, place_of, rows_read, page_of}
use Rattle.teacher.proofs.Walk.{graces_read, chord_read}
use Rattle.teacher.proofs.Before.{Each, each_append, each_weaker}
use Rattle.teacher.proofs.Counted.{beats_before}
use Rattle.teacher.proofs.Entered.{tie_entered}
use Rattle.teacher.proofs.Finished.{RowHas, member_has}
use Rattle.teacher.proofs.Notes.{tie_takes, NoteIn, notes_in_lem}
use Rattle.teacher.proofs.File.{file_walked}

-- ---- every row of the page that the events make
module _ (tracks : List TrackTold) where
  abbrev TiedIn : List Event → List SeenRow → RowPlace → Seen → Type 0
  TiedIn es before place m = m.tied ≡ true → EndsTie tracks es before place m

  abbrev TiedRow : List Event → List SeenRow → SeenRow → Type 0
  TiedRow es before r = RowHas (TiedIn es) before r

  -- a later event leaves what was read before it
  ends_later : (e : Event) (es : List Event) (before : List SeenRow) (place : RowPlace) (m : Seen)
      → EndsTie tracks es before place m → EndsTie tracks (e ∷ es) before place m
  ends_later e es before place m f =
      record {
        beat = f.beat;
        earlier = f.earlier;
        read = record { later = e ∷ f.read.later; is = ap (λ (l : List Event). e ∷ l) f.read.is };
        kept = f.kept;
        number = f.number;
        string = f.string;
        sounding = f.sounding;
        tie = f.tie;
        fret = f.fret;
        last = f.last;
        position = f.position;
        key = f.key;
      }

  rows_later : (e : Event) (es : List Event) (rs : List SeenRow) → Each (TiedRow es) [] rs
      → Each (TiedRow (e ∷ es)) [] rs
  rows_later e es rs =
      each_weaker (TiedRow es) (TiedRow (e ∷ es))
      (λ before r. all_weaker (TiedIn es before r.place) (TiedIn (e ∷ es) before r.place)
      (λ m g t. ends_later e es before r.place m (g t)) r.members)
      [] rs

  -- ---- the rows of one beat
  module _ (b : BeatTold) (es : List Event) (kept : b.beat.head.kept ≡ true) where
    abbrev above : List SeenRow
    above = reverse_aux (graces_read tracks b es) (reverse (page_of tracks es))

    note_ends : (m : Seen) → NoteIn tracks b es m → TiedIn (plays b ∷ es) above (place_of b) m
    note_ends m f t =
        let last : (Option ℕ) = last_read_in tracks b.track b.voice f.string es in
        let tie = sym f.tied ∙ t in
        record {
          beat = b.beat;
          earlier = es;
          read = record { later = []; is = refl };
          kept = kept;
          number = beats_before tracks b es;
          string = f.string;
          sounding = f.sounding;
          tie = tie;
          fret = f.fret;
          last = f.last ∙ tie_takes last (note_at b.beat f.string).read tie;
          position = f.position;
          key = f.key;
        }

    graces_tied : (board : Fretboard) (gs : List Graced) (before : List SeenRow)
        → Each (TiedRow (plays b ∷ es)) before (graces_seen (place_of b) board gs)
    graces_tied board [] before = tt
    graces_tied board (g ∷ gs) before = (each (g ∷ gs), tt)
      where
        each : (gs : List Graced) → All (TiedIn (plays b ∷ es) before (place_of b)) (map (seen_grace board) gs)
        each [] = tt
        each (g ∷ gs) = (λ e. absurd (false≢true e), each gs)

    rows_tied : Each (TiedRow (plays b ∷ es)) (reverse (page_of tracks es)) (rows_read tracks b es)
    rows_tied =
        let board : Fretboard = board_in tracks b.track in
        let xs : List Keyed = notes_of tracks b es in
        each_append (TiedRow (plays b ∷ es)) (reverse (page_of tracks es)) (graces_read tracks b es)
        (chord_read tracks b es ∷ [])
        (graces_tied board (graces xs) (reverse (page_of tracks es))) (
          all_weaker (NoteIn tracks b es) (TiedIn (plays b ∷ es) above (place_of b)) note_ends (map (seen_note board) xs)
              (notes_in_lem tracks b es),
          tt,
        )

  page_tied : (es : List Event) → Each (TiedRow es) [] (page_of tracks es)
  page_tied [] = tt
  page_tied (enters bar ∷ es) = rows_later (enters bar) es (page_of tracks es) (page_tied es)
  page_tied (plays b ∷ es) =
      go b.beat.head.kept refl (rows_later (plays b) es (page_of tracks es) (page_tied es))
    where
      go : (t : Bool) → b.beat.head.kept ≡ t → Each (TiedRow (plays b ∷ es)) [] (page_of tracks es)
          → Each (TiedRow (plays b ∷ es)) [] (pick t (page_of tracks es ++ rows_read tracks b es) (page_of tracks es))
      go true e f =
          each_append (TiedRow (plays b ∷ es)) [] (page_of tracks es) (rows_read tracks b es) f (rows_tied b es e)
      go false e f = f

-- ---- the theorem

-- of any file that is read: "a member that ends a tie has the fret last read on the same string of the same voice of
-- the same track, over bar lines, rests and unkept beats, or its own read fret where there is none; no other string,
-- voice or track has a part in it"
pub ties_told : (s : List ℕ) → Bytes s → (x : Score) (n : ℕ) → run scored s 0 ≡ ok x n → TiesTold s x n
unfolding scored
ties_told s bytes x n e =
    let m = made_of_told (keeping lists none) s bytes x n e in
    let tracks : List TrackTold = m.file.bars.staves.tracks in
    let events : List Event = reverse m.file.bars.events in
    record {
      file = m.file;
      tells = m.tells;
      ties = λ k j d h.
          member_has (TiedIn tracks events) tracks events x (file_walked s x n m) (page_tied tracks events) k d h j;
      entered = λ b earlier read kept i seven on tie d.
          tie_entered tracks b earlier kept events x (file_walked s x n m) read d i seven on tie;
    }
