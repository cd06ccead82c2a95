-- Case by case.
use borrow.Author.Rules.{rules}
use borrow.Author.Tests.{ne_eqb}
use Rattle.beat.specs.Effects.{stroke_of}
use Rattle.beat.proofs.field.stroke_of.Goals as goal

pub returns-in-1 : goal.returns-in-1
unfolding stroke_of
returns-in-1 c =
    rw c.in-1.is

pub returns-in-2 : goal.returns-in-2
unfolding stroke_of
returns-in-2 c =
    rw c.in-2.is

pub returns-in_default : goal.returns-in_default
unfolding stroke_of
returns-in_default c =
    simp (ne_eqb c.args.b 1 (search rules), ne_eqb c.args.b 2 (search rules))
