-- What is left of the notices.
use Prim.Native.Nat.{◌≤◌, ◌-◌}
use Rattle.std.specs.Prelude.{Ok}
use Rattle.format.specs.Prog.{turns}
use Rattle.format.specs.Place.{Leads}
use Rattle.format.specs.Fields.{int_byte_string_unused_past}
use Rattle.song.proofs.info.notices_at.Given as goal

abbrev pub invariant-loop-i : goal.invariant-loop-i
invariant-loop-i l = (l.i ≤ l.n) × Leads (turns l.n 0 (λ _ _. int_byte_string_unused_past) tt) l.s (Ok l.initial.at) (turns (l.n - l.i) l.i (λ _ _. int_byte_string_unused_past) tt) (Ok l.at)

abbrev pub decreases-loop-i : goal.decreases-loop-i
decreases-loop-i l = l.n - l.i
