-- The parts of a note stand where it was read.
use Prim.Native.Nat.{ℕ, ◌+◌, ◌<◌}
use native.Mathlib.Omega.{arith}
use mathlib.Core.Bool.{true}
use mathlib.Core.Path.{◌≡◌}
use mathlib.Core.List.{List}
use Rattle.format.specs.Prog.{Prog, has}
use Rattle.format.specs.Fields.{u8}
use Rattle.note.specs.Points.{bend}
use Rattle.note.specs.Marks.{EffectsIs, note_bend, grace, grace_note, marks, note_effects}
use Rattle.note.specs.Note.{NoteIs, note_end, note_by, note}
use Rattle.note.specs.Notes.{string_bit, no_notes, string_turn, notes}
use Rattle.format.specs.Passed.{Reads, Has}
use Rattle.format.proofs.Standing.{somewhere, reads_parts, reads_bits, reads_turn}

module _ {B : Type 0} {s : List ℕ} {q : Prog B} {from at n : ℕ} where
  -- the note of a string whose bit is set
  pub notes_has : (v strings : ℕ) {ns : List NoteIs} → Reads s q from (notes v strings) at ns n
      → (i : ℕ) → i < 7 → has strings (string_bit i) ≡ true → Has s q from (note v)
  unfolding notes
  notes_has v strings w i l e =
      let z : 0 + i ≡ i = omega arith in
      reads_turn (string_turn v strings) 7 0 i no_notes l w (λ _ _ _ _ w.
      reads_parts _ _ (reads_bits strings (string_bit i) _ _ e (rw z at w)) (λ _ _ a _. somewhere a))

  -- the effects of a note, by flag 0x08 of its first byte: a bend by flag 0x01 of theirs, a grace note by flag 0x10
  pub effects_has : (v flags : ℕ) {e : EffectsIs} → Reads s q from (note_effects v flags) at e n → has flags 0x08 ≡ true
      → (f : ℕ) × (m : ℕ) × Reads s q from u8 at f m
      × (has f 0x01 ≡ true → Has s q from bend) × (has f 0x10 ≡ true → Has s q from (grace_note v))
  unfolding note_effects note_bend marks grace
  effects_has v flags w e = reads_parts _ _ (reads_bits flags 0x08 _ _ e w) (λ f m a w. reads_parts _ _ w (λ _ _ _ w.
      reads_parts _ _ w (λ _ _ b w. reads_parts _ _ w (λ _ _ w _. reads_parts _ _ w (λ _ _ c _. (
        f,
        m,
        a,
        λ h. somewhere (reads_bits f 0x01 _ _ h b),
        λ h. somewhere (reads_bits f 0x10 _ _ h c),
      ))))))

  pub note_has : (v : ℕ) {x : NoteIs} → Reads s q from (note v) at x n
      → (flags : ℕ) × (m : ℕ) × Reads s q from u8 at flags m × Has s q from (note_effects v flags)
  unfolding note note_by note_end
  note_has v w = reads_parts _ _ w (λ flags m a w. reads_parts _ _ w (λ _ _ _ w. reads_parts _ _ w (λ _ _ _ w.
      reads_parts _ _ w (λ _ _ _ w. reads_parts _ _ w (λ _ _ _ w. reads_parts _ _ w (λ _ _ _ w.
      reads_parts _ _ w (λ _ _ _ w. reads_parts _ _ w (λ _ _ b _. (flags, m, a, somewhere b)))))))))
