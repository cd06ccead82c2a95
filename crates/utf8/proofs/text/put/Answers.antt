-- By the length of what is written.
use native.Mathlib.Omega.{arith}
use mathlib.Core.Path.{◌≡◌}
use lib.ListN.{length}
use borrow.Author.Rules.{rules}
use Rattle.std.specs.Prelude.{Err}
use Rattle.utf8.specs.Characters.{written}
use Rattle.utf8.proofs.Results.{there, not_there, fits, short, stated_over, stated_is}
use Rattle.utf8.proofs.text.put.Goals as goal

pub returns-in_err-needed : goal.returns-in_err-needed
returns-in_err-needed c =
    let text = written c.args.text.now in
    let n = not_there _ _ _ c.in_err-needed.ensures.value in
    let over = stated_over (length text) c.length_of.ensures n.0 in
    let e : c.from_residual.result ≡ Err c.in_err-needed.field-0.0 = search rules in
    rw (e, n.1) (short text _ (omega arith) (omega arith))

pub returns-then-out-needed : goal.returns-then-out-needed
returns-then-out-needed c =
    let text = written c.args.text.now in
    let is = stated_is (length text) c.length_of.ensures _ (there _ _ _ c.in_ok-needed.ensures.value) in
    short text _ (omega arith) (omega arith)

pub returns : goal.returns
returns c =
    let text = written c.args.text.now in
    let is = stated_is (length text) c.length_of.ensures _ (there _ _ _ c.in_ok-needed.ensures.value) in
    fits text _ _ is.0 c.if-out-needed.false c.write.ensures
