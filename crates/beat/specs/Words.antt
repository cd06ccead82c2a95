-- What the words of a beat mean. Its bytes and numbers stand in words of their own, as the file has them, in the file's order;
-- the definitions of the format say what is made of them.
use Rattle.std.specs.Prelude.{ℕ, ◌+◌, ◌%◌, ◌≡◌, List, Bool, true, false, ◌&&◌, ◌||◌, get_or, leb, ltb, eqb, None}
use Rattle.std.specs.Int.Bits.{bit_and}
use Rattle.model.specs.declared.Arpeggio.{Arpeggio}
use Rattle.model.specs.declared.Arpeggio.TheVariants.{NoArpeggio}
use Rattle.model.specs.declared.Ottava.{Ottava}
use Rattle.model.specs.Kinds.{tempo_from, flag_of}
use Rattle.format.specs.declared.Range.{Range}
use Rattle.format.specs.Text.{TextRead, text_in, pick}
use Rattle.format.specs.Prog.{Prog, ret, bind, has}
use Rattle.format.specs.Fields.{u8}
use Rattle.format.specs.Place.{Place, Reaches}
use Rattle.format.specs.Padded.{Arrives}
use Rattle.note.specs.Optional.{more_flags}
use Rattle.note.specs.Words.{byte_in, notes_in, Kept}
use Rattle.beat.specs.declared.head.Head.{Head}
use Rattle.beat.specs.declared.effects.PickStroke.{PickStroke}
use Rattle.beat.specs.declared.effects.PickStroke.TheVariants.{NoStroke}
use Rattle.beat.specs.declared.effects.Tapping.{Tapping}
use Rattle.beat.specs.declared.effects.BeatEffects.{BeatEffects}
use Rattle.beat.specs.declared.mix.Mix.{Mix}
use Rattle.beat.specs.Head.{head_of, status, tuplet}
use Rattle.beat.specs.Effects.{brush_of, stroke_of, effects_of, brush, stroke, effects_by}
use Rattle.beat.specs.Tail.{ottava_of}
use Rattle.beat.specs.Beat.{BeatIs, beat_notes, beat_by}

-- ---- the places of the words, in the file's order
abbrev pub FLAGS : ℕ
FLAGS = 0

abbrev pub STATUS : ℕ
STATUS = 1

abbrev pub DURATION : ℕ
DURATION = 2

abbrev pub TUPLET : ℕ
TUPLET = 3

abbrev pub CHORD_START : ℕ
CHORD_START = 4

abbrev pub TEXT_START : ℕ
TEXT_START = 6

abbrev pub EFFECTS : ℕ
EFFECTS = 8

abbrev pub MORE_EFFECTS : ℕ
MORE_EFFECTS = 9

abbrev pub TAPPING : ℕ
TAPPING = 10

abbrev pub BRUSH_FIRST : ℕ
BRUSH_FIRST = 11

abbrev pub BRUSH_SECOND : ℕ
BRUSH_SECOND = 12

abbrev pub PICK : ℕ
PICK = 13

abbrev pub TEMPO : ℕ
TEMPO = 14

abbrev pub WAH : ℕ
WAH = 15

abbrev pub CHANGE : ℕ
CHANGE = 16

abbrev pub STRINGS : ℕ
STRINGS = 17

abbrev pub OTTAVA : ℕ
OTTAVA = 18

-- where the beat itself stands, known at its end
abbrev pub RANGE_START : ℕ
RANGE_START = 19

-- a number of four bytes
unfoldable pub number_in : List ℕ → ℕ → ℕ
number_in b k = get_or b k 0 % 4294967296

-- the range of a text, where it is given
unfoldable pub range_in : Bool → List ℕ → ℕ → Range
range_in given b k = record { start = pick given (get_or b k 0) 0; end = pick given (get_or b (k + 1) 0) 0 }

-- ---- what the words mean
unfoldable pub head_with : (flags : ℕ) → List ℕ → Head
head_with flags b = head_of flags (byte_in b STATUS) (byte_in b DURATION) (number_in b TUPLET)

unfoldable pub head_in : List ℕ → Head
head_in b = head_with (byte_in b FLAGS) b

unfoldable pub chord_in : (flags : ℕ) → List ℕ → Range
chord_in flags b = range_in (has flags 0x02) b CHORD_START

unfoldable pub text_range : (flags : ℕ) → List ℕ → Range
text_range flags b = range_in (has flags 0x04) b TEXT_START

unfoldable pub tapping_in : (v flags : ℕ) → List ℕ → Tapping
tapping_in v flags b =
    record {
      tap = pick (has flags 0x20) (eqb (byte_in b TAPPING) 1) false;
      slap = pick (has flags 0x20) (eqb (byte_in b TAPPING) 2 || eqb (byte_in b TAPPING) 3) false;
      dive = pick (has flags 0x20) (ltb v 400 && eqb (byte_in b TAPPING) 0) false;
    }

-- the two bytes of a brush change places with v500
unfoldable pub brushed : (v : ℕ) → List ℕ → Arpeggio
brushed v b =
    pick (leb 500 v) (brush_of (byte_in b BRUSH_FIRST) (byte_in b BRUSH_SECOND)) (brush_of (byte_in b BRUSH_SECOND) (byte_in b BRUSH_FIRST))

unfoldable pub brush_in : (v flags : ℕ) → List ℕ → Arpeggio
brush_in v flags b = pick (has flags 0x40) (brushed v b) NoArpeggio

unfoldable pub pick_in : (more : ℕ) → List ℕ → PickStroke
pick_in more b = pick (has more 0x02) (stroke_of (byte_in b PICK)) NoStroke

unfoldable pub effects_with : (v flags more : ℕ) → List ℕ → BeatEffects
effects_with v flags more b = effects_of v flags more (tapping_in v flags b) (brush_in v flags b) (pick_in more b)

-- a beat without effects has no flags of effects
unfoldable pub effects_in : (v : ℕ) → List ℕ → BeatEffects
effects_in v b = effects_with v (byte_in b EFFECTS) (byte_in b MORE_EFFECTS) b

unfoldable pub mix_by : Bool → List ℕ → Mix
mix_by given b =
    record {
      tempo = pick given (tempo_from (number_in b TEMPO)) None;
      wah_lost = pick given (flag_of (byte_in b WAH)) false;
      change_lost = pick given (flag_of (byte_in b CHANGE)) false;
    }

unfoldable pub mix_in : (flags : ℕ) → List ℕ → Mix
mix_in flags b = mix_by (has flags 0x10) b

unfoldable pub ottava_in : List ℕ → Ottava
ottava_in b = ottava_of (number_in b OTTAVA)

-- no chord name, text and mix table; no effects; no ottava
unfoldable pub bare_in : List ℕ → Bool
bare_in b =
    (eqb (bit_and (byte_in b FLAGS) 0x02) 0 && (eqb (bit_and (byte_in b FLAGS) 0x04) 0 && eqb (bit_and (byte_in b FLAGS) 0x10) 0))
    && (eqb (byte_in b EFFECTS) 0 && (eqb (byte_in b MORE_EFFECTS) 0 && eqb (number_in b OTTAVA) 0))

-- what stands after the mix table, with what was read before; w are the words of the notes
abbrev pub end_in : List ℕ → (v : ℕ) → Head → (chord text : TextRead) → BeatEffects → Mix → (b w : List ℕ) → BeatIs
end_in s v h c t e m b w =
    record {
      range = range_in true b RANGE_START;
      head = h;
      chord = c;
      text = t;
      effects = e;
      mix = m;
      strings = byte_in b STRINGS;
      notes = notes_in s v (byte_in b STRINGS) w;
      ottava = ottava_in b;
    }

-- what stands after the head
abbrev pub behind_in : List ℕ → (v : ℕ) → Head → (b w : List ℕ) → BeatIs
behind_in s v h b w =
    end_in s v h (text_in s (chord_in (byte_in b FLAGS) b)) (text_in s (text_range (byte_in b FLAGS) b)) (effects_in v b) (mix_in (byte_in b FLAGS) b) b w

-- a beat of a file of version v, by its words and those of its notes
abbrev pub beat_in : List ℕ → (v : ℕ) → (b w : List ℕ) → BeatIs
beat_in s v b w = behind_in s v (head_in b) b w

-- ---- parts of the format's programs that stand behind flags
abbrev pub head_end : (flags : ℕ) → Prog Head
head_end flags = bind (status flags) (λ s. bind u8 (λ code. bind (tuplet flags) (λ n. ret (head_of flags s code n))))

abbrev pub effects_end : (v flags : ℕ) → Prog BeatEffects
effects_end v flags = bind (more_flags v) (λ more. effects_by v flags more)

abbrev pub strokes : (v flags more : ℕ) → Tapping → Prog BeatEffects
strokes v flags more tapped =
    bind (brush v flags) (λ brushed. bind (stroke more) (λ picked. ret (effects_of v flags more tapped brushed picked)))

-- ---- what code that stores words has to show
-- a program is read from a place, into words from k on; a is what they mean
pub record Stores {A : Type 0} (p : Prog A) (s : List ℕ) (from : Place) (k : ℕ) (before after : List ℕ) (a : A) (to : Place) : Type 0 where
  pub reads : Reaches p s from a to
  pub below : Kept k before after

-- a range is stored
pub record RangeStored (k : ℕ) (range : Range) (before after : List ℕ) : Type 0 where
  pub is : range_in true after k ≡ range
  pub below : Kept k before after

-- what stands after the mix table, whatever was read before
pub record NotesTo (v start : ℕ) (s : List ℕ) (from : Place) (before after w : List ℕ) (to : Place) : Type 0 where
  pub reads : (h : Head) (c t : TextRead) (e : BeatEffects) (m : Mix) → Reaches (beat_notes v start h c t e m) s from (end_in s v h c t e m after w) to
  pub below : Kept STRINGS before after

-- what stands after the head, whose words stand already
pub record BehindHead (v start : ℕ) (s : List ℕ) (from : Place) (before after w : List ℕ) (to : Place) : Type 0 where
  pub reads : Reaches (beat_by v start (head_in before)) s from (behind_in s v (head_in before) after w) to
  pub below : Kept CHORD_START before after

-- brush and pick stroke: whatever the version is, and whatever was read before
pub record StrokesTo (flags more : ℕ) (s : List ℕ) (at : ℕ) (before after : List ℕ) (to : Place) : Type 0 where
  pub reads : (v : ℕ) (tapped : Tapping) → Arrives (strokes v flags more tapped) s at (effects_of v flags more tapped (brush_in v flags after) (pick_in more after)) to
  pub below : Kept BRUSH_FIRST before after
