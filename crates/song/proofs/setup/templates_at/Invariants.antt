-- What is left of the templates.
use Prim.Native.Nat.{◌≤◌, ◌-◌}
use Rattle.format.specs.Prog.{turns}
use Rattle.format.specs.Place.{Leads}
use Rattle.format.specs.Fields.{int_byte_string_past}
use Rattle.song.specs.Setup.{templates}
use Rattle.song.proofs.setup.templates_at.Given as goal

abbrev pub invariant-loop-i : goal.invariant-loop-i
invariant-loop-i l = (l.i ≤ 10) × Leads templates l.s l.initial.at (turns (10 - l.i) l.i (λ _ _. int_byte_string_past) tt) l.at

abbrev pub decreases-loop-i : goal.decreases-loop-i
decreases-loop-i l = 10 - l.i
