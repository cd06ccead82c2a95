-- By the law for every width.
use borrow.Author.Rules.{rules}
use mir.Syntax.{w8}
use Rattle.bin.proofs.Complement.{read_signed}
use Rattle.bin.proofs.signed.to_i8.Goals as goal

pub returns : goal.returns
returns c =
    search (rules, read_signed w8 c.args.v)
