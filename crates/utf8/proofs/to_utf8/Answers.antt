-- By the range.
use mathlib.Core.Path.{◌≡◌}
use borrow.Author.Rules.{rules}
use Rattle.std.specs.Prelude.{Err}
use Rattle.utf8.proofs.Results.{there, not_there, part_none, part_some}
use Rattle.utf8.proofs.to_utf8.Goals as goal

pub returns-in_err-text : goal.returns-in_err-text
returns-in_err-text c =
    let n = not_there _ _ _ c.in_err-text.ensures.value in
    let e : c.from_residual.result ≡ Err c.in_err-text.field-0.0 = search rules in
    rw (e, n.1) (part_none _ _ _ c.get.ensures.lookup n.0)

pub returns : goal.returns
returns c =
    let a = c.args in
    rw (part_some a.«data».now a.range a.out.now c.get.ensures.lookup _ (there _ _ _ c.in_ok-text.ensures.value)) c.put.ensures
