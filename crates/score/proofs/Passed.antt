-- Document 01, "Bytes passed over": what stands before a bar's voices.
use Prim.Native.Nat.{ℕ, ◌≤◌}
use mathlib.Core.List.{List}
use Rattle.score.specs.File.{voices}
use Rattle.format.specs.Passed.{Skips}
use Rattle.format.proofs.Passed.{skips_first, skips_le}
use Rattle.format.proofs.PassedFields.{skip_passed}

-- "the byte before a GP5 bar's voices"
pub before_voices : {s : List ℕ} {at v : ℕ} → 500 ≤ v → Skips s at 1 (voices v) at
unfolding voices
before_voices l = skips_le _ _ l (skips_first _ (skip_passed 1))
