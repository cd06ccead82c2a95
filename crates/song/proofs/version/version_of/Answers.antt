-- By the prefix and an optional plus.
use mathlib.Core.Path.{◌∙◌}
use Rattle.format.proofs.Rules.{said_no, said_yes}
use Rattle.song.proofs.Digits.{text_short, text_other, text_plus, text_plain}
use Rattle.song.proofs.version.version_of.Goals as goal

pub returns-then-t-le20 : goal.returns-then-t-le20
returns-then-t-le20 c =
    text_short _ c.if-t-le20.true

pub returns-then-not-starts_with : goal.returns-then-not-starts_with
returns-then-not-starts_with c =
    text_other _ (said_no _ c.starts_with.ensures c.if-not-starts_with.true-raw)

pub returns-then-t-eq43 : goal.returns-then-t-eq43
returns-then-t-eq43 c =
    c.number_at.ensures ∙ text_plus _ (said_yes _ c.starts_with.ensures c.if-not-starts_with.false-raw) c.if-t-eq43.true

pub returns : goal.returns
returns c =
    c.number_at-2.ensures ∙ text_plain _ (said_yes _ c.starts_with.ensures c.if-not-starts_with.false-raw) c.if-t-eq43.false
