-- A word of a stored entry, set: the entry with that field changed.
use mathlib.Core.Bool.{Bool}
use mathlib.Core.Path.{◌≡◌, refl}
use lib.ListN.{set}
use Rattle.model.specs.declared.Member.{Member}
use Rattle.model.specs.declared.Row.{Row}
use Rattle.model.specs.declared.Technique.{Technique}
use Rattle.model.specs.Kinds.{technique_word, flag_word}
use Rattle.entries.specs.Words.{front_words, back_words, row_words, member_words, technique_at, ottava_end_at, tie_start_at}
use Rattle.entries.specs.Changed.{with_technique, with_ottava_end, with_tie_start}

pub technique_set : (q : Technique) (r : Row) → set (row_words r) technique_at (technique_word q) ≡ row_words (with_technique q r)
unfolding row_words front_words back_words
technique_set q r = refl

pub ottava_end_set : (e : Bool) (r : Row) → set (row_words r) ottava_end_at (flag_word e) ≡ row_words (with_ottava_end e r)
unfolding row_words front_words back_words
ottava_end_set e r = refl

pub tie_start_set : (s : Bool) (m : Member) → set (member_words m) tie_start_at (flag_word s) ≡ member_words (with_tie_start s m)
unfolding member_words
tie_start_set s m = refl
