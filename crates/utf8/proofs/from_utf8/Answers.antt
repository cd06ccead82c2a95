-- By what was counted.
use mathlib.Core.Path.{◌≡◌}
use borrow.Author.Rules.{rules}
use Rattle.std.specs.Prelude.{Err}
use Rattle.utf8.specs.declared.CodingError.TheVariants.{NoCharacter}
use Rattle.utf8.proofs.Results.{there, not_there, refused_text, read_fits, read_short}
use Rattle.utf8.proofs.from_utf8.Goals as goal

pub returns-in_err-size : goal.returns-in_err-size
returns-in_err-size c =
    let n = not_there c.read.result NoCharacter _ c.in_err-size.ensures.value in
    let e : c.from_residual.result ≡ Err c.in_err-size.field-0.0 = search rules in
    rw (e, n.1) (refused_text _ _ c.read.ensures.counted n.0)

pub returns-then-out-size : goal.returns-then-out-size
returns-then-out-size c =
    read_short _ _ c.read.ensures.counted _ (there _ _ _ c.in_ok-size.ensures.value) (search rules) c.if-out-size.true

pub returns : goal.returns
returns c =
    read_fits _ _ c.read.ensures.counted _ (there _ _ _ c.in_ok-size.ensures.value) _ c.if-out-size.false c.read-2.ensures.stored
