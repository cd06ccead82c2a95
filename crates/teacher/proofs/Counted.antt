-- There is one row for each kept beat, besides its grace row.
use Prim.Native.Nat.{◌+◌}
use mathlib.Core.Path.{◌≡◌, refl, ap, ◌∙◌}
use mathlib.Core.Bool.{Bool, true, false}
use mathlib.Core.List.{List, [], ◌∷◌, reverse, reverse_aux}
use Rattle.format.specs.Text.{pick}
use Rattle.model.specs.declared.RowPlace.{RowPlace}
use Rattle.score.specs.declared.Fretboard.{Fretboard}
use Rattle.score.specs.Members.{Graced, graces}
use Rattle.told.specs.Told.{TrackTold, BeatTold, Event, enters, plays}
use Rattle.teacher.specs.Teacher.{board_in, SeenRow, beat_rows, beats_kept}
use Rattle.teacher.proofs.Walk.{graces_seen, notes_of, place_of, graces_read, rows_read, page_of, page_same, rows_back}
use Rattle.teacher.proofs.Walk.{page_back}

graces_uncounted : (place : RowPlace) (board : Fretboard) (gs : List Graced) (before : List SeenRow)
    → beat_rows (reverse_aux (graces_seen place board gs) before) ≡ beat_rows before
graces_uncounted place board [] before = refl
graces_uncounted place board (g ∷ gs) before = refl

module _ (tracks : List TrackTold) where
  graces_pass : (b : BeatTold) (es : List Event) (before : List SeenRow)
      → beat_rows (reverse_aux (graces_read tracks b es) before) ≡ beat_rows before
  graces_pass b es = graces_uncounted (place_of b) (board_in tracks b.track) (graces (notes_of tracks b es))

  rows_counted : (b : BeatTold) (es : List Event) (before : List SeenRow)
      → beat_rows (reverse_aux (rows_read tracks b es) before) ≡ beat_rows before + 1
  rows_counted b es before = rw (rows_back tracks b es before) (ap (λ n. n + 1) (graces_pass b es before))

  beats_counted : (es : List Event) → beat_rows (reverse (page_of tracks es)) ≡ beats_kept es
  beats_counted [] = refl
  beats_counted (enters bar ∷ es) = beats_counted es
  beats_counted (plays b ∷ es) = go b.beat.head.kept refl (beats_counted es)
    where
      go : (t : Bool) → b.beat.head.kept ≡ t → beat_rows (reverse (page_of tracks es)) ≡ beats_kept es
          → beat_rows (reverse (page_of tracks (plays b ∷ es))) ≡ pick t (beats_kept es + 1) (beats_kept es)
      go true e same =
          ap beat_rows (page_back tracks b es e) ∙ rows_counted b es (reverse (page_of tracks es)) ∙ ap (λ n. n + 1) same
      go false e same = ap (λ l. beat_rows (reverse l)) (page_same tracks b es e) ∙ same

  -- before the row of a beat's notes stand the rows of the kept beats before it
  pub beats_before : (b : BeatTold) (es : List Event)
      → beat_rows (reverse_aux (graces_read tracks b es) (reverse (page_of tracks es))) ≡ beats_kept es
  beats_before b es = graces_pass b es (reverse (page_of tracks es)) ∙ beats_counted es
