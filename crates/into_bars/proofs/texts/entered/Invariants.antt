-- From the last back.
use mathlib.Core.Path.{◌≡◌}
use Rattle.words.specs.Words.{entered_words}
use Rattle.into_bars.specs.Entered.{text_here}
use Rattle.into_bars.proofs.texts.entered.Given as goal

abbrev pub invariant-loop-i : goal.invariant-loop-i
invariant-loop-i l = entered_words l.s l.i (text_here l.s l.bar l.track l.text) l.texts ≡ entered_words l.s l.count (text_here l.s l.bar l.track l.text) l.texts
