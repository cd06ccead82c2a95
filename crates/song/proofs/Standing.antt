-- The parts of the song's fields stand where those were read.
use Rattle.std.specs.Prelude.{Option}
use Prim.Native.Nat.{ℕ, ◌≤◌}
use mathlib.Core.List.{List}
use Rattle.format.specs.Prog.{Prog}
use Rattle.format.specs.Fields.{fixed_string}
use Rattle.model.specs.declared.LyricLine.{LyricLine}
use Rattle.model.specs.declared.Lyrics.{Lyrics}
use Rattle.song.specs.declared.info.Names.{Names}
use Rattle.song.specs.declared.info.Info.{Info}
use Rattle.song.specs.Version.{version}
use Rattle.song.specs.Info.{names, music, credits, notices, info, lyric_line, five_lines, lyrics}
use Rattle.song.specs.Setup.{templates, page, tempo, setup}
use Rattle.format.specs.Passed.{Reads, Has, HasText}
use Rattle.format.proofs.Standing.{somewhere, reads_parts, reads_le, unused_text, int_text}

-- the kept texts of the song's names and credits, and those of the lyric lines
pub record NamesHas {B : Type 0} (s : List ℕ) (q : Prog B) (from : ℕ) : Type 1 where
  pub title : HasText s q from
  pub subtitle : HasText s q from
  pub artist : HasText s q from

pub record CreditsHas {B : Type 0} (s : List ℕ) (q : Prog B) (from v : ℕ) : Type 1 where
  pub words : HasText s q from
  pub music : 500 ≤ v → HasText s q from
  pub copyright : HasText s q from

pub record LyricsHas {B : Type 0} (s : List ℕ) (q : Prog B) (from : ℕ) : Type 1 where
  pub first : HasText s q from
  pub second : HasText s q from
  pub third : HasText s q from
  pub fourth : HasText s q from
  pub fifth : HasText s q from

module _ {B : Type 0} {s : List ℕ} {q : Prog B} {from at n : ℕ} where
  -- a version's text
  pub version_has : {v : ℕ} → Reads s q from version at v n → Has s q from (fixed_string 30)
  unfolding version
  version_has w = reads_parts _ _ w (λ _ _ a _. somewhere a)

  -- names, credits and notices
  pub info_has : (v : ℕ) {i : Info} → Reads s q from (info v) at i n
      → Has s q from names × ((ns : Names) × Has s q from (credits v ns)) × Has s q from notices
  unfolding info
  info_has v w = reads_parts _ _ w (λ ns _ a w.
      reads_parts _ _ w (λ _ _ b w. reads_parts _ _ w (λ _ _ c _. (somewhere a, (ns, somewhere b), somewhere c))))

  -- page and tempo
  pub setup_has : (v : ℕ) {t : Option ℕ} → Reads s q from (setup v) at t n → Has s q from (page v) × Has s q from (tempo v)
  unfolding setup
  setup_has v w = reads_parts _ _ w (λ _ _ _ w. reads_parts _ _ w (λ _ _ a b. (somewhere a, somewhere b)))

  -- the page's templates, from v500
  pub page_has : {v : ℕ} {x : Unit} → 500 ≤ v → Reads s q from (page v) at x n → Has s q from templates
  unfolding page
  page_has l w = reads_parts _ _ (reads_le _ _ l w) (λ _ _ _ w.
      reads_parts _ _ w (λ _ _ _ w. reads_parts _ _ w (λ _ _ a _. somewhere a)))

-- ---- kept texts (document 02, n)
module _ {B : Type 0} {s : List ℕ} {q : Prog B} {from at n : ℕ} where
  pub names_has : {x : Names} → Reads s q from names at x n → NamesHas s q from
  unfolding names
  names_has w = reads_parts _ _ w (λ _ _ a w. reads_parts _ _ w (λ _ _ b w. reads_parts _ _ w (λ _ _ c _.
      record { title = unused_text (somewhere a); subtitle = unused_text (somewhere b); artist = unused_text (somewhere c) })))

  pub credits_has : (v : ℕ) (x : Names) {i : Info} → Reads s q from (credits v x) at i n → CreditsHas s q from v
  unfolding credits music
  credits_has v x w = reads_parts _ _ w (λ _ _ a w. reads_parts _ _ w (λ _ _ b w. reads_parts _ _ w (λ _ _ c _. record {
    words = unused_text (somewhere a);
    music = λ l. unused_text (somewhere (reads_le _ _ l b));
    copyright = unused_text (somewhere c);
  })))

  line_text : {x : LyricLine} → Reads s q from lyric_line at x n → HasText s q from
  unfolding lyric_line
  line_text w = reads_parts _ _ w (λ _ _ _ w. reads_parts _ _ w (λ _ _ a _. int_text (somewhere a)))

module _ {B : Type 0} {s : List ℕ} {q : Prog B} {from at n : ℕ} where
  -- five lines, from v400
  pub lyrics_has : {v : ℕ} {x : Lyrics} → 400 ≤ v → Reads s q from (lyrics v) at x n → LyricsHas s q from
  unfolding lyrics five_lines
  lyrics_has l w = reads_parts _ _ (reads_le _ _ l w) (λ _ _ _ w. reads_parts _ _ w (λ _ _ a w.
      reads_parts _ _ w (λ _ _ b w. reads_parts _ _ w (λ _ _ c w. reads_parts _ _ w (λ _ _ d w.
      reads_parts _ _ w (λ _ _ e _.
      record { first = line_text a; second = line_text b; third = line_text c; fourth = line_text d; fifth = line_text e }))))))
