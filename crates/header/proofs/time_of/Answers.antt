-- By the tests.
use mathlib.Core.Path.{sym, ◌∙◌}
use borrow.Author.Tests.{eq-eqb, ne_eqb}
use Rattle.header.specs.Header.{time_of, common_time}
use Rattle.header.proofs.time_of.Goals as goal

pub returns-then-numerator-eq0 : goal.returns-then-numerator-eq0
unfolding time_of common_time
returns-then-numerator-eq0 c =
    simp (eq-eqb _ _ c.if-numerator-eq0.true)

pub returns-then-is_power_of_two : goal.returns-then-is_power_of_two
unfolding time_of common_time
returns-then-is_power_of_two c =
    simp (ne_eqb _ _ c.if-numerator-eq0.false, sym c.is_power_of_two.ensures ∙ c.if-is_power_of_two.true)

pub returns : goal.returns
unfolding time_of common_time
returns c =
    simp (ne_eqb _ _ c.if-numerator-eq0.false, sym c.is_power_of_two.ensures ∙ c.if-is_power_of_two.false)
