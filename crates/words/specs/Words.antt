-- The tables as words: those of a caller's slices, and a slice of the reader's own for what is remembered of each track. A word that is
-- missing is 0, and a store past the end does nothing.
use Rattle.std.specs.Prelude.{ℕ, zero, suc, ◌+◌, ◌*◌, ◌%◌, List, [], ◌∷◌, ◌++◌, map, Bool, true, false, ◌&&◌, get_or, set, eqb, leb, None, Option, Some}
use Rattle.std.proofs.lemmas.List.Edits.{sets}
use Rattle.std.proofs.Math.Seq.{slice}
use Rattle.format.specs.Text.{pick}
use Rattle.model.specs.declared.Member.{Member}
use Rattle.model.specs.declared.Key.{Key}
use Rattle.model.specs.declared.Technique.TheVariants.{PullOff}
use Rattle.model.specs.declared.Text.{Text}
use Rattle.model.specs.Kinds.{ending_place_word, ending_place_of, key_of, tempo_word, technique_word, flag_word, flag_of, string_word, ottava_word, ottava_of}
use Rattle.entries.specs.Words.{bar_stride, bar_words, place_at, tempo_at, track_stride, track_words, row_stride, row_words, technique_at, ottava_end_at, member_stride, member_words, tie_start_at, point_stride, point_words, text_stride, text_words}
use Rattle.score.specs.declared.Fretboard.{Fretboard}
use Rattle.score.specs.declared.Hammer.{Hammer}
use Rattle.score.specs.declared.OttavaRun.{OttavaRun}
use Rattle.score.specs.declared.Part.{Part}
use Rattle.score.specs.declared.Voice.{Voice}
use Rattle.score.specs.Bars.{followed}
use Rattle.score.specs.Page as Page
use Rattle.score.specs.Page.{Kind, Entry, TextIs, Operations}
use Rattle.score.specs.Score.{same_bytes}

-- ---- a part: strings and tunings, capo, percussion, tablature; the running dynamic; the two voices
abbrev pub part_stride : ℕ
part_stride = 42

abbrev pub running_place : ℕ
running_place = 11

-- where a voice stands in its part
abbrev pub voice_place : ℕ → ℕ
voice_place zero = 12
voice_place (suc n) = 27

abbrev pub fret_word : Option ℕ → ℕ
fret_word None = 0
fret_word (Some f) = f + 1

unfoldable pub fret_of : ℕ → Option ℕ
fret_of zero = None
fret_of (suc f) = Some (f % 256)

abbrev pub recalled : ℕ → Option ℕ
recalled word = fret_of word

-- a flag for whether there is one; its row; its key, or its kind
abbrev pub hammer_words : Option Hammer → List ℕ
hammer_words None = 0 ∷ 0 ∷ 0 ∷ []
hammer_words (Some w) = 1 ∷ w.row ∷ w.key ∷ []

unfoldable pub hammer_of : (flag n key : ℕ) → Option Hammer
hammer_of flag n key = pick (flag_of flag) (Some (record { row = n; key = key % 256 })) None

abbrev pub run_words : Option OttavaRun → List ℕ
run_words None = 0 ∷ 0 ∷ 0 ∷ []
run_words (Some o) = 1 ∷ o.row ∷ ottava_word o.kind ∷ []

unfoldable pub run_of : (flag n kind : ℕ) → Option OttavaRun
run_of flag n kind = pick (flag_of flag) (Some (record { row = n; kind = ottava_of kind })) None

unfoldable pub voice_words : Voice → List ℕ
voice_words v = map fret_word v.frets ++ hammer_words v.hammer ++ (v.last.first ∷ v.last.count ∷ []) ++ run_words v.run

unfoldable pub board_words : Fretboard → List ℕ
board_words b = b.strings.count ∷ b.strings.tunings ++ (b.capo ∷ flag_word b.percussion ∷ flag_word b.tablature ∷ [])

unfoldable pub part_words : Part → List ℕ
part_words p = board_words p.board ++ (p.running ∷ []) ++ voice_words p.first ++ voice_words p.second

-- the board and the voice that stand from a word on
unfoldable pub board_from : ℕ → List ℕ → Fretboard
board_from at t =
    record {
      strings = record {
        count = get_or t at 0 % 256;
        tunings =
            get_or t (at + 1) 0 % 256 ∷ get_or t (at + 2) 0 % 256 ∷ get_or t (at + 3) 0 % 256 ∷ get_or t (at + 4) 0 % 256
            ∷ get_or t (at + 5) 0 % 256 ∷ get_or t (at + 6) 0 % 256 ∷ get_or t (at + 7) 0 % 256 ∷ [];
      };
      capo = get_or t (at + 8) 0 % 256;
      percussion = flag_of (get_or t (at + 9) 0);
      tablature = flag_of (get_or t (at + 10) 0);
    }

abbrev pub fret_from : ℕ → List ℕ → Option ℕ
fret_from at t = recalled (get_or t at 0)

unfoldable pub voice_from : ℕ → List ℕ → Voice
voice_from at t =
    record {
      frets =
          fret_from at t ∷ fret_from (at + 1) t ∷ fret_from (at + 2) t ∷ fret_from (at + 3) t ∷ fret_from (at + 4) t
          ∷ fret_from (at + 5) t ∷ fret_from (at + 6) t ∷ [];
      hammer = hammer_of (get_or t (at + 7) 0) (get_or t (at + 8) 0) (get_or t (at + 9) 0);
      last = record { first = get_or t (at + 10) 0; count = get_or t (at + 11) 0 };
      run = run_of (get_or t (at + 12) 0) (get_or t (at + 13) 0) (get_or t (at + 14) 0);
    }

-- ---- the words of any entry
abbrev pub Words : Kind → Type 0
Words k = List ℕ

abbrev pub text_entry : TextIs → Text
text_entry t = record { bar = t.bar; track = t.track; range = t.text.range }

abbrev pub stride : Kind → ℕ
stride Page.bars = bar_stride
stride Page.tracks = track_stride
stride Page.rows = row_stride
stride Page.members = member_stride
stride Page.points = point_stride
stride Page.texts = text_stride
stride Page.parts = part_stride

abbrev pub words_of : (k : Kind) → Entry k → List ℕ
words_of Page.bars e = bar_words e
words_of Page.tracks e = track_words e
words_of Page.rows e = row_words e
words_of Page.members e = member_words e
words_of Page.points e = point_words e
words_of Page.texts e = text_words (text_entry e)
words_of Page.parts e = part_words e

abbrev pub LARGEST : ℕ
LARGEST = 4294967295

-- a sum, as far as a word of 32 bits goes
unfoldable pub word_plus : ℕ → ℕ → ℕ
word_plus a b = pick (leb (a + b) LARGEST) (a + b) LARGEST

-- ---- what is done to them
unfoldable pub go_on_words : ℕ → List ℕ → List ℕ
go_on_words i t = set t (i * bar_stride + place_at) (ending_place_word (followed (ending_place_of (get_or t (i * bar_stride + place_at) 0))))

unfoldable pub key_words : ℕ → List ℕ → Key
key_words i t = key_of (get_or t (i * bar_stride + 2) 0) (get_or t (i * bar_stride + 3) 0)

-- the word of a tempo that is there stays
abbrev pub first_word : ℕ → ℕ → ℕ
first_word old new = pick (eqb old 0) new old

unfoldable pub tempo_words : ℕ → Option ℕ → List ℕ → List ℕ
tempo_words i x t = set t (i * bar_stride + tempo_at) (first_word (get_or t (i * bar_stride + tempo_at) 0) (tempo_word x))

-- string 0 is off tablature
abbrev pub answers_word : Member → (key string : ℕ) → Bool
answers_word tied key string = pick (eqb (string_word tied.position) 0) (eqb tied.key key) (eqb (string_word tied.position) string)

abbrev pub start_words : (i count : ℕ) → Member → List ℕ → List ℕ
start_words i zero tied t = t
start_words i (suc k) tied t =
    pick (answers_word tied (get_or t (i * member_stride) 0) (get_or t (i * member_stride + 2) 0))
    (set t (i * member_stride + tie_start_at) (flag_word true))
    (start_words (i + 1) k tied t)

-- the texts of a file s
abbrev pub entered_words : List ℕ → ℕ → TextIs → List ℕ → Bool
entered_words s zero x t = false
entered_words s (suc i) x t =
    pick (eqb x.bar (get_or t (i * text_stride) 0) && eqb x.track (get_or t (i * text_stride + 1) 0))
    (pick (same_bytes x.text.bytes (slice (get_or t (i * text_stride + 2) 0) (get_or t (i * text_stride + 3) 0) s)) true (entered_words s i x t))
    false

abbrev pub words : List ℕ → Operations Words
words s =
    record {
      plus = word_plus;
      add = λ k n e t. sets t (n * stride k) (words_of k e);
      go_on = go_on_words;
      key_at = key_words;
      tempo_at = tempo_words;
      pull_off = λ i t. set t (i * row_stride + technique_at) (technique_word PullOff);
      carry_on = λ i t. set t (i * row_stride + ottava_end_at) (flag_word false);
      start_tie = λ span m t. start_words span.first span.count m t;
      entered = entered_words s;
      board_at = λ i t. board_from (i * part_stride) t;
      voice_at = λ i v t. voice_from (i * part_stride + voice_place v) t;
      put_voice = λ i v x t. sets t (i * part_stride + voice_place v) (voice_words x);
      running_at = λ i t. get_or t (i * part_stride + running_place) 0 % 256;
      put_running = λ i n t. set t (i * part_stride + running_place) n;
    }
