-- One pass over a file, into the words of seven slices.
use Rattle.std.specs.Prelude.{ℕ, Bool, List, Result, Ok}
use Rattle.format.specs.declared.Stop.{Stop}
use Rattle.format.specs.Place.{ReadsAs}
use Rattle.score.specs.declared.Tally.{Tally}
use Rattle.score.specs.File.{Whole, file}
use Rattle.score.specs.Page.{Staves, Walk, keeping}
use Rattle.front.specs.declared.SongRead.{SongRead}
use Rattle.words.specs.Words.{Words, words}
use Rattle.words.specs.Counted.{passing}
use Rattle.words.specs.Meant.{walk_of}
use Rattle.words.specs.Heads.{staves_of}
use Rattle.front.specs.Front.{song_of}
use Rattle.reader.specs.declared.pass.Passed.{Passed}
use Rattle.words.specs.Lent.{Lent, lent}

-- a whole file in the slices; what the tracks left in the reader's own is written over by the beats
abbrev pub whole_of : SongRead → List (List ℕ) → (parts losses : List ℕ) → Lent → Tally → Whole (Staves Words) (Walk Words)
whole_of song programs parts losses t tally =
    record {
      song = song_of song programs;
      tracks = staves_of t.tracks parts losses;
      bars = walk_of t.bars t.rows t.members t.points t.texts t.parts tally;
    }

-- what is read of a file from its start to where it ends, or why reading stopped
pub record Passes (counting : Bool) (s : List ℕ) (before after : Lent) (read : Result (Passed × ℕ) Stop) : Type 0 where
  pub programs : List (List ℕ)
  pub parts : List ℕ
  pub losses : List ℕ
  pub reads : ReadsAs (λ p. whole_of p.song programs parts losses after p.tally) (file (passing counting (keeping (words s) (lent before)))) s (Ok 0) read
