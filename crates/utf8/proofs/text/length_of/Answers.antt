-- The bytes of the characters passed, and of those that are left.
use native.Mathlib.Omega.{arith}
use native.Mathlib.Nat.{add-zero}
use mathlib.Core.Path.{◌≡◌, ◌∙◌}
use lib.ListN.{length}
use Rattle.utf8.specs.Characters.{written}
use Rattle.utf8.proofs.Turns.{written_length, written_out, stated_length, stated_not}
use Rattle.utf8.proofs.text.length_of.Goals as goal

pub returns-in_err-n : goal.returns-in_err-n
returns-in_err-n c =
    let e = c.size_of.ensures in
    let l = written_length c.args.text.now c.loop-byte.byte-index c.loop-byte-test.true in
    c.from_residual.ensures ∙ stated_not _ (omega (arith, e, l, c.in_err-n.ensures, c.loop-byte.invariant.1))

pub loop-byte-preserved : goal.loop-byte-preserved
loop-byte-preserved c =
    let e = c.size_of.ensures in
    let l = written_length c.args.text.now c.loop-byte.byte-index c.loop-byte-test.true in
    (omega (arith, c.in_ok-n.ensures), omega (arith, e, l, c.in_ok-n.ensures.1, c.loop-byte.invariant.1))

pub returns : goal.returns
returns c =
    let e = written_out c.args.text.now c.loop-byte.byte-index c.loop-byte-test.false in
    let l : c.loop-byte.n ≡ length (written c.args.text.now) = rw (e, add-zero) at c.loop-byte.invariant.1 in
    rw (← l) (stated_length c.loop-byte.n c.loop-byte.invariant.0)
