use native.Mathlib.Omega.{arith}
use Rattle.bin.specs.Signed.{signed}
use Rattle.model.proofs.Rest.{quarter}
use Rattle.model.proofs.Duration.from_code.Goals as goal

pub returns-in-1 : goal.returns-in-1
unfolding signed
returns-in-1 c =
    rw c.in-1.is

pub returns-in-2 : goal.returns-in-2
unfolding signed
returns-in-2 c =
    rw c.in-2.is

pub returns-in-3 : goal.returns-in-3
unfolding signed
returns-in-3 c =
    rw c.in-3.is

pub returns-in-4 : goal.returns-in-4
unfolding signed
returns-in-4 c =
    rw c.in-4.is

pub returns-in-254 : goal.returns-in-254
unfolding signed
returns-in-254 c =
    rw c.in-254.is

pub returns-in-255 : goal.returns-in-255
unfolding signed
returns-in-255 c =
    rw c.in-255.is

pub returns-in_default : goal.returns-in_default
unfolding signed
returns-in_default c =
    quarter c.args.code c.in_default.in_default-own.rest.0.0 c.in_default.in_default-own.rest.0.1 c.in_default.in_default-own.rest.1 (omega arith)
