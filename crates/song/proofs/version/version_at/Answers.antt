-- The text, and the test of its number.
use mathlib.Core.Path.{ap, ◌∙◌}
use Rattle.format.proofs.Rules.{returning}
use Rattle.song.specs.Version.{version_of, accepted, version}
use Rattle.song.proofs.version.version_at.Goals as goal

pub returns-in_err-text : goal.returns-in_err-text
unfolding accepted version
returns-in_err-text c =
    search returning

pub returns-then-v-lt300 : goal.returns-then-v-lt300
unfolding accepted version
returns-then-v-lt300 c =
    let e = c.version_of-v.ensures ∙ ap version_of c.part.ensures in let h = rw e at c.if-v-lt300.true in search (returning, h) depth 8

pub returns-then-v-gt599 : goal.returns-then-v-gt599
unfolding accepted version
returns-then-v-gt599 c =
    let e = c.version_of-v.ensures ∙ ap version_of c.part.ensures in let h = rw e at c.if-v-lt300.false in let k = rw e at c.if-v-gt599.true in search (returning, h, k) depth 8

pub returns : goal.returns
unfolding accepted version
returns c =
    let e = c.version_of-v.ensures ∙ ap version_of c.part.ensures in let h = rw e at c.if-v-lt300.false in let k = rw e at c.if-v-gt599.false in rw e (search (returning, h, k) depth 8)
