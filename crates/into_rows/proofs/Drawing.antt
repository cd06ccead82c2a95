-- A row by its draft, with the members and the curve that it has.
use Rattle.std.specs.Prelude.{None, Option, Some}
use Prim.Native.Nat.{ℕ, ◌*◌}
use native.Mathlib.Omega.{arith}
use mathlib.Core.Path.{◌≡◌, refl, ◌∙◌}
use mathlib.Core.List.{List, [], ◌∷◌}
use mathlib.Core.Bool.{not, ◌&&◌}
use borrow.Author.Tests.{ne_eqb}
use lib.Dec.{eqb, ltb}
use lib.ListN.{length}
use lib.Seq.{sets}
use Rattle.model.specs.declared.Member.{Member}
use Rattle.model.specs.declared.OttavaMarks.{OttavaMarks}
use Rattle.model.specs.declared.Point.{Point}
use Rattle.model.specs.declared.Row.{Row}
use Rattle.model.specs.declared.Span.{Span}
use Rattle.entries.specs.Words.{row_stride, row_words}
use Rattle.score.specs.declared.Hammer.{Hammer}
use Rattle.score.specs.declared.KeptCounts.{KeptCounts}
use Rattle.score.specs.declared.OttavaRun.{OttavaRun}
use Rattle.score.specs.declared.Voice.{Voice}
use Rattle.score.specs.Page.{first_key, lower_first, pulls, span_of, hammer_after, last_after, run_after, ottava_marks, turn_hammer, turn_run, row_entry}
use Rattle.draft.specs.declared.Draft.{Draft}
use Rattle.draft.specs.Meant.{drawn}
use Rattle.words.specs.Words.{words}
use Rattle.words.specs.Voices.{with_hammer, with_last, with_run}
use Rattle.into_rows.specs.declared.members.Company.{Company}
use Rattle.into_rows.specs.Entry.{Sums, undrawn, voice_after}

lower : (ms : List Member) (key : ℕ) → not (eqb (length ms) 0) && ltb (first_key ms) key ≡ lower_first ms key
lower [] key = refl
lower (m ∷ ms) key = rw (ne_eqb (length (m ∷ ms)) 0 (λ e. omega arith))

module _ (ms : List Member) (ps : List Point) (d : Draft) where
  pub pulled : (company : Company) (key : ℕ) → Sums ms company
      → not d.rest && (not (eqb company.count 0) && ltb company.key key) ≡ pulls (drawn ms ps d) key
  pulled company key sums = rw (← sums.count, ← sums.key, lower ms key)

  -- what an ottava does hangs on neither members nor curve
  same_turn : (run : Option OttavaRun) (t : List ℕ)
      → turn_run (words []) run (undrawn d) t ≡ turn_run (words []) run (drawn ms ps d) t
  same_turn None t = refl
  same_turn (Some o) t = refl

  same_marks : (run : Option OttavaRun) → ottava_marks (undrawn d) run ≡ ottava_marks (drawn ms ps d) run
  same_marks None = refl
  same_marks (Some o) = refl

  same_run : (n : ℕ) (run : Option OttavaRun) → run_after n (undrawn d) run ≡ run_after n (drawn ms ps d) run
  same_run n None = refl
  same_run n (Some o) = refl

  pub row_added : (kept : KeptCounts) (hammer : Option Hammer) (run : Option OttavaRun) (rows : List ℕ) {marks : OttavaMarks} {row : Row}
      {turned carried entered : List ℕ} → turned ≡ turn_hammer (words []) hammer (drawn ms ps d) rows
      → carried ≡ turn_run (words []) run (undrawn d) turned
      → marks ≡ ottava_marks (undrawn d) run
      → row ≡ row_entry (drawn ms ps d) marks kept
      → entered ≡ sets carried (kept.rows * row_stride) (row_words row)
      → entered
      ≡ sets (turn_run (words []) run (drawn ms ps d) (turn_hammer (words []) hammer (drawn ms ps d) rows)) (kept.rows * row_stride)
      (row_words (row_entry (drawn ms ps d) (ottava_marks (drawn ms ps d) run) kept))
  row_added kept hammer run rows eh er em ew e =
      rw (e, ew, em ∙ same_marks run, er ∙ same_turn run _, eh)

  pub voice_kept : (company : Company) (kept : KeptCounts) (voice : Voice) {own last : Span} {hammer : Option Hammer} {run : Option OttavaRun}
      {v₁ v₂ v₃ : Voice} → Sums ms company
      → own ≡ span_of kept.members company.count
      → last ≡ last_after d.kind own voice.last
      → run ≡ run_after kept.rows (undrawn d) voice.run
      → hammer ≡ hammer_after kept.rows (drawn ms ps d)
      → v₁ ≡ with_last voice last
      → v₂ ≡ with_run v₁ run
      → v₃ ≡ with_hammer v₂ hammer
      → v₃ ≡ voice_after (drawn ms ps d) kept voice
  voice_kept company kept voice sums eo el er eh e₁ e₂ e₃ =
      rw (e₃, e₂, e₁, sums.count, er ∙ same_run kept.rows voice.run, eh, el, eo)
