-- What each note of a chord adds to its row, and what all of them give.
use Prim.Native.Nat.{ℕ, zero, suc}
use native.Mathlib.Omega.{arith}
use mathlib.Core.Path.{◌≡◌, refl, sym}
use mathlib.Core.Bool.{Bool, true, false}
use mathlib.Core.List.{List, [], ◌∷◌, ◌++◌}
use borrow.Author.Tests.{lt-ltb}
use lib.Dec.{ltb, eqb}
use Rattle.format.specs.Text.{pick}
use Rattle.model.specs.declared.Articulation.{Articulation}
use Rattle.model.specs.declared.Articulations.{Articulations}
use Rattle.model.specs.declared.NoteHead.{NoteHead}
use Rattle.model.specs.declared.NoteHead.TheVariants.{Normal, Cross}
use Rattle.model.specs.declared.Technique.TheVariants.{NoTechnique}
use Rattle.model.specs.declared.TechniqueText.{TechniqueText}
use Rattle.model.specs.declared.TechniqueText.TheVariants.{NoText, HammerMark}
use Rattle.model.specs.Marks.{add_once, packed, byte_counted, no_marks, add_mark}
use Rattle.model.proofs.MarksLaws.{Distinct, distinct_nil, distinct_add, add_packed, byte_counted_lem}
use Rattle.note.specs.declared.bend.Bend.{Bend}
use Rattle.beat.specs.declared.effects.BeatEffects.{BeatEffects}
use Rattle.note.specs.Points.{points_at, bend_in}
use Rattle.note.specs.Note.{NoteIs}
use Rattle.score.proofs.Facts.{marks_few}
use Rattle.score.specs.Members.{Keyed, Graced}
use Rattle.score.specs.Rows.{Played, bent, with_text, with_bend, with_hammer, with_slide}
use Rattle.score.specs.Rows.{beat_marks, added_all, marks_of_notes, row_articulations}
use Rattle.score.specs.Rows.{grace_technique, grace_text, grace_head}
use Rattle.draft.specs.declared.graces.Graces.{Graces}
use Rattle.draft.specs.Steps.{played_by, add_marks, any_of, graces_of}

-- ---- technique and its text

pub bent_is : (s : List ℕ) (b : Bend) → bent (bend_in s b) ≡ ltb 0 b.count
unfolding points_at
bent_is s b = go b.count
  where
    go : (n : ℕ) → bent (points_at s b.start n) ≡ ltb 0 n
    go zero = refl
    go (suc n) = sym (lt-ltb 0 (suc n) (omega arith))

-- text, bend, hammer and slide of a note, one after another
pub played_in_turn : (n : NoteIs) (p t b h r : Played) → t ≡ with_text n.read.effects p → b ≡ with_bend n.bend t
    → h ≡ with_hammer n.read.effects b → r ≡ with_slide n.read.effects h → r ≡ played_by n p
unfolding played_by
played_in_turn n p t b h r e f g k = rw (k, g, f, e)

-- ---- articulations

pub add_both : (m : Articulations) (xs ys : List Articulation) → add_marks m (xs ++ ys) ≡ add_marks (add_marks m xs) ys
unfolding add_marks
add_both m [] ys = refl
add_both m (a ∷ xs) ys = add_both (add_mark a m) xs ys

-- adding to what a row holds is adding to the list
add_all_lem : (xs l : List Articulation) → Distinct l → add_marks (packed l) xs ≡ packed (added_all l xs)
unfolding add_marks
add_all_lem [] l d = refl
add_all_lem (a ∷ xs) l d = rw (add_packed a l d) (add_all_lem xs (add_once a l) (distinct_add a l d))

pub marks_packed : (e : BeatEffects) (xs : List Keyed)
    → add_marks no_marks (marks_of_notes e xs ++ beat_marks e) ≡ packed (row_articulations e xs)
unfolding row_articulations
marks_packed e xs = add_all_lem (marks_of_notes e xs ++ beat_marks e) [] distinct_nil

pub marks_counted : (e : BeatEffects) (xs : List Keyed) → byte_counted (packed (row_articulations e xs)) ≡ packed (row_articulations e xs)
marks_counted e xs = byte_counted_lem (row_articulations e xs) (marks_few e xs)

-- ---- graces

abbrev text_after : TechniqueText → List Graced → TechniqueText
text_after t [] = t
text_after t (g ∷ gs) = text_after (pick (eqb g.grace.transition 3) HammerMark t) gs

abbrev head_after : NoteHead → List Graced → NoteHead
head_after h [] = h
head_after h (g ∷ gs) = head_after (pick g.grace.dead Cross h) gs

abbrev any_after : Bool → List Graced → Bool
any_after b [] = b
any_after b (g ∷ gs) = any_after true gs

-- what they give after others
abbrev pub graces_after : Graces → List Graced → Graces
graces_after x gs =
    record {
      any = any_after x.any gs;
      text = text_after x.text gs;
      technique = grace_technique x.technique gs;
      head = head_after x.head gs;
    }

text_stays : (gs : List Graced) → text_after HammerMark gs ≡ HammerMark
text_stays [] = refl
text_stays (g ∷ gs) = at (eqb g.grace.transition 3) (text_stays gs)
  where
    at : (b : Bool) → text_after HammerMark gs ≡ HammerMark → text_after (pick b HammerMark HammerMark) gs ≡ HammerMark
    at true h = h
    at false h = h

text_is : (gs : List Graced) → text_after NoText gs ≡ grace_text gs
text_is [] = refl
text_is (g ∷ gs) = at (eqb g.grace.transition 3) (text_is gs)
  where
    at : (b : Bool) → text_after NoText gs ≡ grace_text gs
        → text_after (pick b HammerMark NoText) gs ≡ pick b HammerMark (grace_text gs)
    at true h = text_stays gs
    at false h = h

head_stays : (gs : List Graced) → head_after Cross gs ≡ Cross
head_stays [] = refl
head_stays (g ∷ gs) = at g.grace.dead (head_stays gs)
  where
    at : (b : Bool) → head_after Cross gs ≡ Cross → head_after (pick b Cross Cross) gs ≡ Cross
    at true h = h
    at false h = h

head_is : (gs : List Graced) → head_after Normal gs ≡ grace_head gs
head_is [] = refl
head_is (g ∷ gs) = at g.grace.dead (head_is gs)
  where
    at : (b : Bool) → head_after Normal gs ≡ grace_head gs
        → head_after (pick b Cross Normal) gs ≡ pick b Cross (grace_head gs)
    at true h = head_stays gs
    at false h = h

any_stays : (gs : List Graced) → any_after true gs ≡ true
any_stays [] = refl
any_stays (g ∷ gs) = any_stays gs

any_is : (gs : List Graced) → any_after false gs ≡ any_of gs
any_is [] = refl
any_is (g ∷ gs) = any_stays gs

pub graces_after_lem : (gs : List Graced)
    → graces_after (record { any = false; text = NoText; technique = NoTechnique; head = Normal }) gs ≡ graces_of gs
graces_after_lem gs = rw (text_is gs, head_is gs, any_is gs)
