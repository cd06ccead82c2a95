-- What is lent of a track while beats of one of its voices are entered: its fretboard, the voice, its running dynamic.
use Rattle.std.specs.Prelude.{ℕ, ◌+◌, ◌*◌, ◌%◌, ◌≡◌, List, get_or, set}
use Rattle.std.proofs.lemmas.List.Edits.{sets}
use Rattle.score.specs.declared.Fretboard.{Fretboard}
use Rattle.score.specs.declared.Voice.{Voice}
use Rattle.words.specs.Words.{part_stride, running_place, voice_place, voice_words, voice_from, board_from}

-- they are those that stand in the words of all tracks
pub record Lent (track voice : ℕ) (board : Fretboard) (memory : Voice) (running : ℕ) (parts : List ℕ) : Type 0 where
  pub on : board ≡ board_from (track * part_stride) parts
  pub remembers : memory ≡ voice_from (track * part_stride + voice_place voice) parts
  pub runs : running ≡ get_or parts (track * part_stride + running_place) 0 % 256

-- those words once they are put back
abbrev pub put_back : (track voice : ℕ) → Voice → (running : ℕ) → List ℕ → List ℕ
put_back track voice memory running parts =
    set (sets parts (track * part_stride + voice_place voice) (voice_words memory)) (track * part_stride + running_place) running
