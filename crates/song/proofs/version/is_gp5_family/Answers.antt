-- What stands after the length byte.
use mathlib.Core.Path.{refl, ◌∙◌}
use Rattle.song.proofs.Digits.{family_empty, family_rest}
use Rattle.song.proofs.version.is_gp5_family.Goals as goal

pub returns-then-s-eq0 : goal.returns-then-s-eq0
returns-then-s-eq0 c =
    family_empty _ c.if-s-eq0.true

pub returns : goal.returns
returns c =
    c.starts_with.ensures ∙ family_rest _ _ refl
