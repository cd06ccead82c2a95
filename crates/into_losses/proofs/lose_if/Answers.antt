-- One report or none.
use native.Mathlib.Omega.{arith}
use Rattle.into_losses.proofs.Counting.{numbered, reported_if}
use Rattle.into_losses.proofs.lose_if.Goals as goal

pub offset_bounds-losses-n : goal.offset_bounds-losses-n
offset_bounds-losses-n c =
    omega (arith, c.loss_number-n.ensures, numbered c.args.loss)

pub bounds-losses-n : goal.bounds-losses-n
bounds-losses-n c =
    omega (arith, c.loss_number-n.ensures, numbered c.args.loss)

pub offset_bounds-losses-n-2 : goal.offset_bounds-losses-n-2
offset_bounds-losses-n-2 c =
    omega (arith, c.loss_number-n.ensures, numbered c.args.loss)

pub bounds-losses-n-2 : goal.bounds-losses-n-2
bounds-losses-n-2 c =
    omega (arith, c.loss_number-n.ensures, numbered c.args.loss)

pub returns : goal.returns
returns c =
    let a = c.args in rw (c.counted_if.ensures, c.loss_number-n.ensures) (reported_if a.lost a.loss a.losses.now)
