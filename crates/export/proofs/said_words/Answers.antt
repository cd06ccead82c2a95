-- Word by word.
use Rattle.export.specs.Said.{said_words}
use mir.Syntax.{w32}
use mir.Val.{SFits}
use mir.Facts.{to_z-of_z}
use borrow.Author.Rules.{rules}
use Rattle.export.proofs.said_words.Goals as goal

pub returns : goal.returns
unfolding said_words
returns c =
    let small : SFits w32 c.outcome_value.result = search rules in
    rw (
      c.outcome_number.ensures,
      c.low.ensures,
      c.outcome_which.ensures,
      c.from_i32.ensures,
      to_z-of_z small,
      c.outcome_value.ensures,
      c.low-2.ensures,
      c.outcome_offset.ensures,
    )
