-- The kind that a word stands for; the last arm by what no other arm names.
use mathlib.Core.Path.{ap, ◌∙◌}
use lib.IntN.{ℤ}
use mir.Syntax.{w8}
use mir.Facts.{to_z-of_z}
use borrow.Author.Rules.{sfits_of}
use borrow.Author.Tests.{eq-eqb, ne_eqb}
use Rattle.model.specs.Kinds.{key_of}
use Rattle.model.specs.declared.Key.TheVariants.{Fifths}
use Rattle.model.specs.declared.Mode.TheVariants.{Major, Minor}
use Rattle.model.proofs.kinds.key_of.Goals as goal

pub returns-then-mode-eq1 : goal.returns-then-mode-eq1
unfolding key_of
returns-then-mode-eq1 c =
    rw (eq-eqb _ _ c.if-mode-eq1.true) (ap (λ (z : ℤ). Fifths z Major) (to_z-of_z (sfits_of {w = w8} c.to_i8-n.type_inv) ∙ c.to_i8-n.ensures ∙ rw c.byte_of.ensures))

pub returns-then-mode-eq2 : goal.returns-then-mode-eq2
unfolding key_of
returns-then-mode-eq2 c =
    rw (ne_eqb _ _ c.if-mode-eq1.false, eq-eqb _ _ c.if-mode-eq2.true) (ap (λ (z : ℤ). Fifths z Minor) (to_z-of_z (sfits_of {w = w8} c.to_i8-n.type_inv) ∙ c.to_i8-n.ensures ∙ rw c.byte_of.ensures))

pub returns : goal.returns
unfolding key_of
returns c =
    rw (ne_eqb _ _ c.if-mode-eq1.false, ne_eqb _ _ c.if-mode-eq2.false)
