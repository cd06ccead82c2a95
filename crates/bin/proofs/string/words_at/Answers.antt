-- The three ends of a text, and the text between them.
use native.Mathlib.Omega.{arith}
use Rattle.format.proofs.Rules.{returning}
use Rattle.format.proofs.Text.{words_goes, words_ends}
use Rattle.bin.proofs.string.words_at.Goals as goal

pub returns-in_err-at : goal.returns-in_err-at
returns-in_err-at c =
    search returning

pub returns-then-s-at : goal.returns-then-s-at
returns-then-s-at c =
    words_ends c.in_ok-at.was _ (omega arith)

pub returns-then-s-at-2 : goal.returns-then-s-at-2
returns-then-s-at-2 c =
    words_ends c.in_ok-at.was _ (omega arith)

pub returns : goal.returns
returns c =
    words_goes _ _ _ _ _ _ (omega arith) c.keep_end-stop.ensures.0 c.keep_end-stop.ensures.1 c.cut_end-cut.ensures.1 c.cut_end-cut.ensures.2 c.lead_end-start.ensures.2 c.keep_end-stop.ensures.2 c.in_ok-at.was c.range_of.ensures
