-- Document 02, c: what the file browser shows of a file, by a reading that ends right after the counts of bars and tracks.
use Rattle.std.specs.Prelude.{ℕ, ◌%◌, ◌≤◌, List, [], ◌∷◌}
use Rattle.bin.specs.Signed.{signed, unsigned}
use Rattle.format.specs.Fits.{Begins}
use Rattle.format.specs.Verdict.{LIMIT, Verdict, whole, truncated, too_long, bad_version, bad_count, empty, verdict}
use Rattle.model.specs.declared.Answer.{Answer}
use Rattle.model.specs.declared.Outcome.{Outcome}
use Rattle.model.specs.declared.Outcome.TheVariants as O
use Rattle.model.specs.Answers.{numbers_of, no_range}
use Rattle.score.specs.File.{Opening, opening}
use Rattle.shelves.specs.declared.view.Shelf.{Shelf}

-- "title, composer, version, bars and tracks": of what stands before the bar headers
abbrev pub shown : Opening → Shelf
shown g =
    record {
      outcome = O.Read;
      version = g.version;
      title = g.info.title;
      composer = g.info.composer;
      bars = g.counts.bars;
      tracks = g.counts.tracks;
    }

-- a refusal shows nothing
abbrev pub not_shown : Outcome → Shelf
not_shown o = record { outcome = o; version = 0; title = no_range; composer = no_range; bars = 0; tracks = 0 }

-- "Refusals: 1 to 5 as far as that place, in file order; 6 never"
abbrev pub shelf_of : Verdict Opening → Shelf
shelf_of (whole g used) = shown g
shelf_of truncated = not_shown O.Truncated
shelf_of bad_version = not_shown O.Version
shelf_of (bad_count which value offset) = not_shown (O.Count which (signed 2147483648 value) offset)
shelf_of empty = not_shown O.Empty
shelf_of too_long = not_shown O.TooLong

-- "It should stop right after the bar and track counts": what follows them is neither read nor judged
unfoldable pub shelving : List ℕ → Shelf
shelving d = shelf_of (verdict opening d)

-- a shelf in words, as it is printed and said to a caller in another language: document 01's number of the outcome; of a count that is
-- refused which it is, its value in two's complement and the offset of its four bytes; version, title, composer, bars, tracks
unfoldable pub shelf_words : Shelf → List ℕ
shelf_words x =
    (numbers_of x.outcome).number ∷ (numbers_of x.outcome).which
    ∷ unsigned 2147483648 (numbers_of x.outcome).value ∷ (numbers_of x.outcome).offset % 4294967296
    ∷ x.version ∷ x.title.start % 4294967296 ∷ x.title.end % 4294967296
    ∷ x.composer.start % 4294967296 ∷ x.composer.end % 4294967296 ∷ x.bars ∷ x.tracks ∷ []

-- ---- the words that the theorems use

-- document 01's number of the outcome
abbrev pub shelf_number : Shelf → ℕ
shelf_number x = (numbers_of x.outcome).number

-- what the shelf would show of an answer of the full reading
abbrev pub on_shelf : Answer → Shelf
on_shelf a =
    record {
      outcome = a.outcome;
      version = a.song.version;
      title = a.song.title;
      composer = a.song.composer;
      bars = a.counts.bars;
      tracks = a.counts.tracks;
    }

-- the first n bytes of d, no more than 16,777,216, are those that end with the counts, and they give g
pub record Opened (d : List ℕ) (g : Opening) (n : ℕ) : Type 0 where
  pub limit : n ≤ LIMIT
  pub begins : Begins opening d g n
