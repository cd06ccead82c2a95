-- By the law for every width.
use borrow.Author.Rules.{rules}
use mir.Syntax.{w16}
use Rattle.bin.proofs.Complement.{written_signed}
use Rattle.bin.proofs.signed.from_i16.Goals as goal

pub returns : goal.returns
returns c =
    search (rules, written_signed w16 c.args.k)
