-- What is left to compare decides as the whole does.
use borrow.Author.Rules.{rules}
use mathlib.Core.Path.{refl}
use Rattle.song.proofs.Digits.{start_ends, start_not, start_on, start_out}
use Rattle.song.proofs.version.starts_with.Goals as goal

pub loop-i-init : goal.loop-i-init
loop-i-init c =
    (search rules, refl)

pub returns-then-t-i : goal.returns-then-t-i
returns-then-t-i c =
    start_ends c.args.n c.args.t.now c.loop-i.i c.requires c.loop-i.invariant.1 c.loop-i-test.true c.if-t-i.true

pub returns-then-t-i-2 : goal.returns-then-t-i-2
returns-then-t-i-2 c =
    start_not c.args.n c.args.t.now c.loop-i.i c.requires c.loop-i.invariant.1 c.loop-i-test.true (search rules) c.if-t-i-2.true

pub loop-i-preserved : goal.loop-i-preserved
loop-i-preserved c =
    (search rules, start_on c.args.n c.args.t.now c.loop-i.i c.requires c.loop-i.invariant.1 c.loop-i-test.true (search rules) c.if-t-i-2.false)

pub returns : goal.returns
returns c =
    start_out c.args.n c.args.t.now c.loop-i.i c.requires c.loop-i.invariant.1 c.loop-i-test.false
