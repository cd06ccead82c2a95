-- A plain note is read straight on, over variables: its flags have 0x20, and none of 0x01, 0x08 and 0x80.
use Prim.Native.Nat.{ℕ, ◌+◌, ◌-◌, ◌≤◌}
use native.Mathlib.Omega.{arith}
use mathlib.Core.Path.{◌≡◌, refl, ◌∙◌}
use mathlib.Core.List.{List}
use mathlib.Core.Bool.{Bool, true, false, ◌&&◌}
use lib.ListN.{get_or, length}
use lib.Bits.{bit_and}
use lib.Dec.{leb, ltb, eqb}
use borrow.Author.Tests.{eqb-true, leb-true}
use Rattle.std.specs.Prelude.{Ok}
use Rattle.format.specs.Prog.{Prog, has}
use Rattle.format.specs.Fields.{u8}
use Rattle.format.specs.Padded.{Padded}
use Rattle.format.proofs.Run.{clash}
use Rattle.format.proofs.Padded as pad
use Rattle.note.specs.Optional.{optional}
use Rattle.note.specs.Marks.{note_effects, no_note_effects}
use Rattle.note.specs.Note.{accidental, percent, fretted_byte, own_duration, note_end, note_by, note}
use Rattle.note.specs.Words.{byte_in, marks_in, bend_at, effects_at, note_in, Kept, Stored, Fills, FillsTo}
use Rattle.note.proofs.Stores.{kept_on, byte_kept}
use Rattle.note.proofs.Strings.{masked}
use Rattle.note.proofs.Filled.{pad_byte_to, and_false, no_marks_lem, no_bend, hands_none, dynamic_kept, dynamic_read}

-- ---- the flags
pub record Straight (flags : ℕ) : Type 0 where
  pub fretted : has flags 0x20 ≡ true
  pub steady : has flags 0x01 ≡ false
  pub unmarked : bit_and flags 0x08 ≡ 0
  pub unfingered : bit_and flags 0x80 ≡ 0

pub straight_flags : (flags : ℕ) → bit_and flags 0xA9 ≡ 0x20 → Straight flags
unfolding has
straight_flags m e =
    record {
      fretted = rw (masked m 0xA9 0x20 refl, e);
      steady = rw (masked m 0xA9 0x01 refl, e);
      unmarked = rw (masked m 0xA9 0x08 refl, e);
      unfingered = rw (masked m 0xA9 0x80 refl, e);
    }

-- the test for such a note, at a position of a file of n bytes
pub tested : (flags n at : ℕ) → (eqb (bit_and flags 0xA9) 0x20 && leb 5 (n - at)) ≡ true → (bit_and flags 0xA9 ≡ 0x20) × (5 ≤ n - at)
tested flags n at e = let x = and_true (eqb (bit_and flags 0xA9) 0x20) (leb 5 (n - at)) e in (eqb-true _ _ x.0, leb-true _ _ x.1)
  where
    and_true : (a b : Bool) → (a && b) ≡ true → (a ≡ true) × (b ≡ true)
    and_true true b h = (refl, h)
    and_true false b h = clash (cc)

-- ---- the fields
module _ {s : List ℕ} {at : ℕ} (flags : ℕ) where
  pub fretted_read : {b next : ℕ} → has flags 0x20 ≡ true → b ≡ get_or s at 0 → at + 1 ≡ next → Padded (fretted_byte flags) s at b next
  unfolding fretted_byte optional
  fretted_read h e n = rw h (pad_byte_to e n)

  pub no_duration : (v : ℕ) → has flags 0x01 ≡ false → Padded (own_duration v flags) s at tt at
  unfolding own_duration optional
  no_duration v h = rw (h, and_false (ltb v 500)) pad.here

  no_percent : (v : ℕ) → has flags 0x01 ≡ false → Padded (percent v flags) s at tt at
  unfolding percent optional
  no_percent v h = rw (h, and_false (leb 500 v)) pad.here

  pub turned_read : {b next : ℕ} (v : ℕ) → has flags 0x01 ≡ false → Padded (optional (leb 500 v) u8 0) s at b next → Padded (accidental v flags) s at b next
  unfolding accidental
  turned_read v h p = pad.on _ (no_percent v h) p

  no_effects_lem : (w : List ℕ) (v o : ℕ) → bit_and flags 0x08 ≡ 0 → byte_in w (o + 7) ≡ 0 → byte_in w (o + 8) ≡ 0 → Padded (note_effects v flags) s at (effects_at s v w o) at
  unfolding note_effects no_note_effects marks_in bend_at
  no_effects_lem w v o h a b = rw (a, b, no_marks_lem v w o, no_bend s w o) (pad.pad_clear _ _ _ _ h pad.here)

-- ---- the note
pub straight_read : {s w w₁ w₂ w₃ w₄ w₅ w₆ w₇ : List ℕ} {at flags kind fret a₁ a₂ : ℕ} (v o : ℕ) → flags ≡ get_or s at 0 → Straight flags → Stored (o + 0) flags w w₁ → kind ≡ get_or s (at + 1) 0 → Stored (o + 1) kind w₁ w₂ → Fills (optional (has flags 0x10) u8 0) 1 s (at + 2) (o + 2) w₂ w₃ (byte_in w₃ (o + 2)) a₁ → fret ≡ get_or s a₁ 0 → Stored (o + 3) fret w₃ w₄ → Fills (optional (leb 500 v) u8 0) 1 s (a₁ + 1) (o + 6) w₄ w₅ (byte_in w₅ (o + 6)) a₂ → Stored (o + 7) 0 w₅ w₆ → Stored (o + 8) 0 w₆ w₇ → Fills (note v) 5 s at o w w₇ (note_in s v w₇ o) a₂
unfolding note note_by note_end
straight_read {s} {w} {w₁} {w₂} {w₃} {w₄} {w₅} {w₆} {w₇} {flags = flags} v o e g sf ek sk d ef sr t a b =
    let k₅ : Kept (o + 7) w₅ w₇ = kept_on (omega arith) (omega arith) a.below b.below in
    let k₄ : Kept (o + 6) w₄ w₇ = kept_on (omega arith) (omega arith) t.below k₅ in
    let k₃ : Kept (o + 3) w₃ w₇ = kept_on (omega arith) (omega arith) sr.below k₄ in
    let k₂ : Kept (o + 2) w₂ w₇ = kept_on (omega arith) (omega arith) d.below k₃ in
    let k₁ : Kept (o + 1) w₁ w₇ = kept_on (omega arith) (omega arith) sk.below k₂ in
    let first : byte_in w₇ (o + 7) ≡ 0 = byte_kept (o + 7) (omega arith) b.below ∙ a.is in
    record {
      reads =
          rw (byte_kept (o + 0) (omega arith) k₁, sf.is, byte_kept (o + 1) (omega arith) k₂, sk.is, dynamic_kept flags o (omega arith) k₃, byte_kept (o + 3) (omega arith) k₄, sr.is, byte_kept (o + 6) (omega arith) k₅)
          (pad.on _ (pad.pad_byte e)
          (pad.on _ (fretted_read flags g.fretted ek (omega arith))
          (pad.on _ (no_duration flags v g.steady)
          (pad.on _ (dynamic_read w₃ flags o d.reads)
          (pad.on _ (fretted_read flags g.fretted ef (omega arith))
          (pad.on _ (hands_none {w = w₇} {k = 0} flags o g.unfingered).reads
          (pad.on _ (turned_read flags v g.steady t.reads)
          (pad.on _ (no_effects_lem flags w₇ v o g.unmarked first b.is) pad.here))))))));
      below = kept_on (omega arith) (omega arith) sf.below k₁;
      near = let x = d.near in let y = t.near in omega arith;
    }

-- where all of its bytes are there, it comes to a place
pub fills_there : {A : Type 0} {p : Prog A} {n : ℕ} {s w w₁ : List ℕ} {at k next : ℕ} {a : A} → at + n ≤ length s → Fills p n s at k w w₁ a next → FillsTo p s at k w w₁ a (Ok next)
fills_there h f =
    record {
      reads =
          record {
            within = λ l. record { reaches = f.reads.there (let x = f.near in omega arith) };
            beyond = λ g. let z : ⊥ = omega arith in absurd z;
          };
      below = f.below;
    }
