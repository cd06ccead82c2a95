-- The marker of a bar header stands where the header was read.
use Prim.Native.Nat.{ℕ}
use mathlib.Core.Bool.{true}
use mathlib.Core.Path.{◌≡◌}
use mathlib.Core.List.{List}
use Rattle.format.specs.Prog.{Prog, has}
use Rattle.format.specs.Fields.{u8, int_byte_string}
use Rattle.model.specs.declared.Time.{Time}
use Rattle.header.specs.declared.Header.{Header}
use Rattle.header.specs.Header.{marker, header_marks, header}
use Rattle.format.specs.Passed.{Reads, Has}
use Rattle.format.proofs.Standing.{somewhere, reads_parts, reads_bits}

module _ {B : Type 0} {s : List ℕ} {q : Prog B} {from at n : ℕ} where
  -- by flag 0x20 of the header's first byte
  pub header_has : (v : ℕ) (before : Time) {h : Header} → Reads s q from (header v before) at h n
      → (flags : ℕ) × (m : ℕ) × Reads s q from u8 at flags m × (has flags 0x20 ≡ true → Has s q from int_byte_string)
  unfolding header header_marks marker
  header_has v before w = reads_parts _ _ w (λ flags m a w. reads_parts _ _ w (λ _ _ _ w. reads_parts _ _ w (λ _ _ w _.
      reads_parts _ _ w (λ _ _ _ w. reads_parts _ _ w (λ _ _ _ w. reads_parts _ _ w (λ _ _ w _.
      (flags, m, a, λ e. reads_parts _ _ (reads_bits flags 0x20 _ _ e w) (λ _ _ b _. somewhere b))))))))
