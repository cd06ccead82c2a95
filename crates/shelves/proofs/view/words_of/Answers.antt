-- Word by word.
use mir.Facts.{to_z-of_z}
use mir.Syntax.{w32}
use mir.Val.{SFits}
use borrow.Author.Rules.{rules}
use Rattle.shelves.specs.Shelf.{shelf_words}
use Rattle.shelves.proofs.view.words_of.Goals as goal

pub returns : goal.returns
unfolding shelf_words
returns c =
    let small : SFits w32 c.outcome_value.result = search rules in
    rw (
      c.outcome_number.ensures,
      c.outcome_which.ensures,
      c.from_i32.ensures,
      to_z-of_z small,
      c.outcome_value.ensures,
      c.low.ensures,
      c.outcome_offset.ensures,
      c.low-2.ensures,
      c.low-3.ensures,
      c.low-4.ensures,
      c.low-5.ensures,
    )
