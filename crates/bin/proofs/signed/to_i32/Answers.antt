-- By the law for every width.
use borrow.Author.Rules.{rules}
use mir.Syntax.{w32}
use Rattle.bin.proofs.Complement.{read_signed}
use Rattle.bin.proofs.signed.to_i32.Goals as goal

pub returns : goal.returns
returns c =
    search (rules, read_signed w32 c.args.v)
