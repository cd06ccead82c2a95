-- By the law for every width.
use borrow.Author.Rules.{rules}
use mir.Syntax.{w32}
use Rattle.bin.proofs.Complement.{written_signed}
use Rattle.bin.proofs.signed.from_i32.Goals as goal

pub returns : goal.returns
returns c =
    search (rules, written_signed w32 c.args.k)
