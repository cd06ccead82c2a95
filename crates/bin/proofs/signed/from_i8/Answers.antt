-- By the law for every width.
use borrow.Author.Rules.{rules}
use mir.Syntax.{w8}
use Rattle.bin.proofs.Complement.{written_signed}
use Rattle.bin.proofs.signed.from_i8.Goals as goal

pub returns : goal.returns
returns c =
    search (rules, written_signed w8 c.args.k)
