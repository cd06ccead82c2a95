-- The words of a row that waits, case by case.
use mathlib.Core.Path.{◌∙◌, sym}
use native.Mathlib.Omega.{arith}
use Rattle.words.proofs.Back.{hammer_back}
use Rattle.words.proofs.Voices.{no_hammer}
use borrow.Author.Rules.{rules}
use Rattle.words.proofs.voice.hammer_words.Goals as goal

pub returns-in-None : goal.returns-in-None
returns-in-None c =
    record { words = search rules; said = rw c.in-None.is no_hammer }

pub returns-in-Some : goal.returns-in-Some
returns-in-Some c =
    record { words = cc; said = rw c.byte_word.ensures.value (hammer_back _ _ (omega (arith, c.byte_word.ensures.value, c.byte_word.ensures.byte)) ∙ sym c.in-Some.is) }
