-- The words of a fret, a hammer and an ottava say them.
use Rattle.std.specs.Prelude.{None, Option, Some}
use Prim.Native.Nat.{ℕ, ◌<◌}
use mathlib.Core.Path.{◌≡◌, refl}
use native.Mathlib.Nat.{mod-eq_of_lt}
use native.Mathlib.Numerals.{add-one}
use lib.ListN.{get_or}
use Rattle.model.specs.Kinds.{flag_of}
use Rattle.model.proofs.KindLaws.{ottava_back}
use Rattle.score.specs.declared.OttavaRun.{OttavaRun}
use Rattle.words.specs.Words.{fret_word, fret_of, hammer_of, run_words, run_of}

pub fret_back : (f : ℕ) → f < 256 → fret_of (fret_word (Some f)) ≡ Some f
unfolding fret_of
fret_back f h = rw (add-one, mod-eq_of_lt h)

pub hammer_back : (n key : ℕ) → key < 256 → hammer_of 1 n key ≡ Some (record { row = n; key = key })
unfolding hammer_of flag_of
hammer_back n key h = rw (mod-eq_of_lt h)

pub run_back : (r : Option OttavaRun) → run_of (get_or (run_words r) 0 0) (get_or (run_words r) 1 0) (get_or (run_words r) 2 0) ≡ r
unfolding run_of flag_of
run_back None = refl
run_back (Some o) = rw (ottava_back o.kind)
