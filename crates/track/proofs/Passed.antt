-- Document 01, "Bytes passed over": what a track passes over.
use Prim.Native.Nat.{ℕ, ◌+◌, ◌*◌, ◌-◌, ◌≤◌}
use mathlib.Core.Path.{◌≡◌}
use mathlib.Core.List.{List}
use Rattle.format.specs.declared.Counted.TheVariants as C
use Rattle.format.specs.Prog.{ok, run}
use Rattle.format.specs.Fields.{skip, count, int_byte_string_past}
use Rattle.track.specs.Track.{tunings, strings, sound, effect}
use Rattle.format.specs.Passed.{Skips, itself, first, then, StringPassed}
use Rattle.format.proofs.Passed.{skips_first, skips_after, stands_le}
use Rattle.format.proofs.PassedFields.{next_number, skip_passed, string_passed}

module _ {s : List ℕ} {at : ℕ} where
  -- "effect channel, fret count", after port and channel
  pub effect_channel_fret_count : Skips s (at + 4 + 4) 8 sound at
  unfolding sound
  effect_channel_fret_count = next_number 4 _ (λ _. next_number 4 _ (λ _. skips_first _ (skip_passed 8)))

  -- "tunings past the string count": of seven
  pub tunings_past : {n m k : ℕ} {ts : List ℕ} → run (count C.Strings) s at ≡ ok n m → run (tunings n) s m ≡ ok ts k
      → Skips s k (4 * (7 - n)) strings at
  unfolding strings
  tunings_past e f = skips_after _ _ _ _ _ e (skips_after _ _ _ _ _ f (skips_first _ (skip_passed _)))

  -- "effect names": the name of an effect, and its category
  pub effect_name : {v k : ℕ} → 510 ≤ v → run (skip 4) s at ≡ ok tt k → StringPassed s k (effect v) at
  unfolding effect
  effect_name l e = string_passed (stands_le _ _ l (then _ _ e (first _ itself)))

  pub effect_category : {v m k : ℕ} → 510 ≤ v → run (skip 4) s at ≡ ok tt m → run int_byte_string_past s m ≡ ok tt k
      → StringPassed s k (effect v) at
  unfolding effect
  effect_category l e f = string_passed (stands_le _ _ l (then _ _ e (then _ _ f itself)))
