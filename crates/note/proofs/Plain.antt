-- A note without flags of effects has no effects and no bend; one without accents too is plain.
use Prim.Native.Nat.{ℕ, ◌+◌}
use mathlib.Core.Path.{◌≡◌, refl, sym, ◌∙◌}
use mathlib.Core.Bool.{Bool, true, false, not, ◌||◌, true≢false}
use mathlib.Core.List.{List}
use lib.Dec.{eqb}
use borrow.Author.Tests.{eqb-true}
use Rattle.format.specs.Prog.{has}
use Rattle.note.specs.Note.{read_of}
use Rattle.note.specs.Words.{FIRST, MORE, start, byte_in, marks_in, bend_by, bend_at, read_in, WithoutEffects, Plain}
use Rattle.note.proofs.Filled.{no_marks_lem}

or_left : (a b : Bool) → (a || b) ≡ false → a ≡ false
or_left true b e = absurd (true≢false e)
or_left false b e = refl

or_right : (a b : Bool) → (a || b) ≡ false → b ≡ false
or_right true b e = absurd (true≢false e)
or_right false b e = e

none : (n : ℕ) → not (eqb n 0) ≡ false → n ≡ 0
none n e = eqb-true n 0 (by (eqb n 0) e)
  where
    by : (b : Bool) → not b ≡ false → b ≡ true
    by true h = refl
    by false h = absurd (true≢false h)

pub without_effects : {v : ℕ} {w : List ℕ} (i : ℕ) {f m : ℕ} → f ≡ byte_in w (start i + FIRST) → m ≡ byte_in w (start i + MORE)
    → (not (eqb f 0) || not (eqb m 0)) ≡ false → WithoutEffects v w i
unfolding read_of marks_in bend_at bend_by has
without_effects {v} {w} i {f} {m} ef em e =
    let first : byte_in w (start i + FIRST) ≡ 0 = sym ef ∙ none f (or_left (not (eqb f 0)) (not (eqb m 0)) e) in
    let more : byte_in w (start i + MORE) ≡ 0 = sym em ∙ none m (or_right (not (eqb f 0)) (not (eqb m 0)) e) in
    record { marks = rw (first, more) (no_marks_lem v w (start i)); bend = rw first }

pub plain : {v : ℕ} {w : List ℕ} (i : ℕ) {a h e : Bool} → a ≡ (read_in v w i).accent → h ≡ (read_in v w i).heavy_accent
    → (e ≡ false → WithoutEffects v w i) → (a || (h || e)) ≡ false → Plain v w i
plain i {a} {h} {e} ea eh without none =
    let others = or_right a (h || e) none in
    record {
      light = sym ea ∙ or_left a (h || e) none;
      heavy = sym eh ∙ or_left h e others;
      effects = without (or_right h e others);
    }
