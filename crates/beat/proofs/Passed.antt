-- Document 01, "Bytes passed over", and document 02, n: what a beat's mix table and tail pass over.
use Prim.Native.Nat.{ℕ, ◌+◌, ◌≤◌, ◌<◌}
use mathlib.Core.Bool.{Bool, true}
use mathlib.Core.Logic.{inl, inr}
use mathlib.Core.Path.{◌≡◌, refl}
use mathlib.Core.List.{List}
use lib.Dec.{ltb}
use borrow.Author.Tests.{le-leb, lt-ltb}
use Rattle.format.specs.Prog.{ok, run, bind, when_le, has}
use Rattle.format.specs.Count.{NEGATIVE}
use Rattle.format.specs.Fields.{u8, u16, skip, sign_byte, int_byte_string_past}
use Rattle.format.specs.Alike.{Kept, Signed}
use Rattle.note.specs.Optional.{optional}
use Rattle.beat.specs.Mix.{three_signs, tempo_name, duration, tempo_end, mix_flags, wah, mix_strings, mix_table}
use Rattle.beat.specs.Tail.{tail_byte, tail}
use Rattle.format.specs.Passed.{Skips, itself, first, then, StringPassed}
use Rattle.format.proofs.Passed.{skips_first, skips_after, skips_le, stands_le}
use Rattle.format.proofs.PassedFields.{skip_passed, string_passed}

-- bytes that stand where they are given
given_passed : {s : List ℕ} {at : ℕ} {given : Bool} (n : ℕ) → given ≡ true → Skips s at n (optional given (skip n) tt) at
unfolding optional
given_passed n e = rw e (skip_passed n)

module _ {s : List ℕ} {at : ℕ} where
  -- "mix-table strings": the tempo's name, and two more from v510
  pub tempo_name_lem : {v : ℕ} → 500 ≤ v → StringPassed s at (tempo_name v) at
  unfolding tempo_name
  tempo_name_lem l = string_passed (stands_le _ _ l itself)

  pub mix_string : {v : ℕ} → 510 ≤ v → StringPassed s at (mix_strings v) at
  unfolding mix_strings
  mix_string l = string_passed (stands_le _ _ l (first _ itself))

  pub other_mix_string : {v k : ℕ} → 510 ≤ v → run int_byte_string_past s at ≡ ok tt k → StringPassed s k (mix_strings v) at
  unfolding mix_strings
  other_mix_string l e = string_passed (stands_le _ _ l (then _ _ e itself))

  -- "mix-table durations": of each value, and of the tempo, that is 0 or more
  pub duration_passed : {given : Bool} → given ≡ true → Skips s at 1 (duration given) at
  unfolding duration
  duration_passed e = given_passed 1 e

  -- "trailing flags": after the tempo's duration from v510, and from v400
  pub tempo_flag : {v tempo k : ℕ} → tempo < NEGATIVE → 510 ≤ v → run (duration (ltb tempo NEGATIVE)) s at ≡ ok tt k
      → Skips s k 1 (tempo_end v tempo) at
  unfolding tempo_end
  tempo_flag {v} {tempo} l h e =
      skips_after _ _ _ _ _ e (given_passed 1 (rw (lt-ltb tempo NEGATIVE l, le-leb 510 v h) refl))

  pub trailing_flags : {v : ℕ} → 400 ≤ v → Skips s at 1 (mix_flags v) at
  unfolding mix_flags
  trailing_flags {v} l = given_passed 1 (le-leb 400 v l)

  -- "the byte after beat flag 0x800"
  pub after_flag_0x800 : {v f k : ℕ} → 500 ≤ v → run u16 s at ≡ ok f k → has f 0x800 ≡ true → Skips s k 1 (tail v) at
  unfolding tail tail_byte
  after_flag_0x800 l e h = skips_le _ _ l (skips_after _ _ _ _ _ e (skips_first _ (given_passed 1 h)))

-- "(not the wah byte)": it is kept
pub wah_kept : (s : List ℕ) (at : ℕ) {v : ℕ} → 500 ≤ v → Kept (wah v) s at at
unfolding wah when_le u8 bind
wah_kept s at {v = v} l = rw (le-leb 500 v l) (inl refl)

-- document 02, n: of the instrument, which is a mix table's first byte, and of three values the signs alone count
pub instrument_signed : (s : List ℕ) (at v : ℕ) → Signed (mix_table v) s at at
unfolding mix_table sign_byte bind
instrument_signed s at v = inl refl

pub three_signed : (s : List ℕ) (at : ℕ)
    → Signed three_signs s at at × Signed three_signs s at (at + 1) × Signed three_signs s at (at + 1 + 1)
unfolding three_signs sign_byte bind
three_signed s at = (inl refl, inr (inl refl), inr (inr (inl refl)))
