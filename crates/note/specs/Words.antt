-- What the words of a note mean. Each of its bytes stands in a word of its own, as the file has it, in the file's order; the
-- definitions of the format say what is made of them.
use Rattle.std.specs.Prelude.{ℕ, zero, suc, ◌+◌, ◌*◌, ◌-◌, ◌/◌, ◌%◌, ◌^◌, ◌<◌, ◌≤◌, ◌≡◌, List, [], ◌∷◌, Bool, false, not, ◌||◌, get_or, eqb, None, Option, Some}
use Rattle.std.specs.Int.Bits.{bit_and}
use Rattle.std.specs.Int.Count.{count_leading_zeros}
use Rattle.format.specs.Place.{Place}
use Rattle.format.specs.Text.{pick}
use Rattle.format.specs.Prog.{Prog, has}
use Rattle.format.specs.Padded.{Padded, Arrives}
use Rattle.curve.specs.Held.{held, byte_end}
use Rattle.curve.specs.Slide.{slide_of}
use Rattle.curve.specs.declared.slide.SlideEffect.{SlideEffect}
use Rattle.note.specs.declared.bend.Bend.{Bend}
use Rattle.note.specs.declared.marks.Harmonic.{Harmonic}
use Rattle.note.specs.declared.marks.NoteEffects.{NoteEffects}
use Rattle.note.specs.declared.LeftHand.TheVariants.{NoFinger}
use Rattle.note.specs.declared.Hands.{Hands}
use Rattle.note.specs.declared.NoteRead.{NoteRead}
use Rattle.format.specs.Sign.{not_negative}
use Rattle.note.specs.Points.{bend_in}
use Rattle.note.specs.Marks.{EffectsIs, grace_of, slide_flag, marks_of, no_marks}
use Rattle.note.specs.Note.{NoteIs, left_hand, read_of, note_end, no_note}
use Rattle.note.specs.Notes.{string_bit}
use Rattle.note.specs.declared.marks.Grace.{Grace}

-- ---- the places of the words, in the file's order
abbrev pub FLAGS : ℕ
FLAGS = 0

abbrev pub KIND : ℕ
KIND = 1

abbrev pub DYNAMIC : ℕ
DYNAMIC = 2

abbrev pub FRET : ℕ
FRET = 3

abbrev pub LEFT : ℕ
LEFT = 4

abbrev pub RIGHT : ℕ
RIGHT = 5

abbrev pub TURNED : ℕ
TURNED = 6

abbrev pub FIRST : ℕ
FIRST = 7

abbrev pub MORE : ℕ
MORE = 8

abbrev pub BEND_START : ℕ
BEND_START = 9

abbrev pub BEND_COUNT : ℕ
BEND_COUNT = 10

abbrev pub GRACE_FRET : ℕ
GRACE_FRET = 11

abbrev pub TRANSITION : ℕ
TRANSITION = 12

abbrev pub GRACE_FLAGS : ℕ
GRACE_FLAGS = 13

abbrev pub SPEED : ℕ
SPEED = 14

abbrev pub SLIDE : ℕ
SLIDE = 15

abbrev pub HARMONIC : ℕ
HARMONIC = 16

-- where the words of a string's note start: there is room for eight, so that no number is out of range
unfoldable pub start : ℕ → ℕ
start i = i % 8 * 18

unfoldable pub byte_in : List ℕ → ℕ → ℕ
byte_in w k = get_or w k 0 % 256

-- ---- what the words mean, that start at o
unfoldable pub dynamic_in : (flags : ℕ) → List ℕ → ℕ → Option ℕ
dynamic_in flags w o = pick (has flags 0x10) (Some (byte_in w (o + DYNAMIC))) None

unfoldable pub hands_in : (flags : ℕ) → List ℕ → ℕ → Hands
hands_in flags w o =
    record {
      left = pick (has flags 0x80) (left_hand (byte_in w (o + LEFT))) NoFinger;
      right_lost = pick (has flags 0x80) (not_negative (byte_in w (o + RIGHT))) false;
    }

unfoldable pub grace_in : (first : ℕ) → List ℕ → ℕ → Option Grace
grace_in first w o =
    pick (has first 0x10) (grace_of (byte_in w (o + GRACE_FRET)) (byte_in w (o + TRANSITION)) (byte_in w (o + GRACE_FLAGS))) None

unfoldable pub tremolo_in : (more : ℕ) → List ℕ → ℕ → Option ℕ
tremolo_in more w o = pick (has more 0x04) (Some (held byte_end 1 3 (byte_in w (o + SPEED)))) None

unfoldable pub slide_in : (v first more : ℕ) → List ℕ → ℕ → SlideEffect
slide_in v first more w o = pick (has more 0x08) (slide_of v (byte_in w (o + SLIDE))) (slide_flag v first)

unfoldable pub harmonic_in : (more : ℕ) → List ℕ → ℕ → Harmonic
harmonic_in more w o =
    record { given = has more 0x10; lost = pick (has more 0x10) (not (eqb (byte_in w (o + HARMONIC)) 1)) false }

unfoldable pub marks_by : (v first more : ℕ) → List ℕ → ℕ → NoteEffects
marks_by v first more w o =
    marks_of first more (grace_in first w o) (tremolo_in more w o) (slide_in v first more w o) (harmonic_in more w o)

-- a note without effects has no flags of effects
unfoldable pub marks_in : (v : ℕ) → List ℕ → ℕ → NoteEffects
marks_in v w o = marks_by v (byte_in w (o + FIRST)) (byte_in w (o + MORE)) w o

unfoldable pub bend_by : (first : ℕ) → List ℕ → ℕ → Bend
bend_by first w o =
    record {
      start = pick (has first 0x01) (get_or w (o + BEND_START) 0) 0;
      count = pick (has first 0x01) (get_or w (o + BEND_COUNT) 0 % 4294967296) 0;
    }

unfoldable pub bend_at : List ℕ → ℕ → Bend
bend_at w o = bend_by (byte_in w (o + FIRST)) w o

abbrev pub effects_at : List ℕ → (v : ℕ) → List ℕ → ℕ → EffectsIs
effects_at s v w o = record { marks = marks_in v w o; bend = bend_in s (bend_at w o) }

-- what stands after the fret, with what was read before
abbrev pub end_at : List ℕ → (v flags kind : ℕ) → Option ℕ → (fret : ℕ) → List ℕ → ℕ → NoteIs
end_at s v flags kind stored fret w o =
    record {
      read = read_of flags kind stored fret (hands_in flags w o) (byte_in w (o + TURNED)) (marks_in v w o);
      bend = bend_in s (bend_at w o);
    }

abbrev pub note_bytes : List ℕ → (v flags : ℕ) → List ℕ → ℕ → NoteIs
note_bytes s v flags w o =
    end_at s v flags (byte_in w (o + KIND)) (dynamic_in flags w o) (byte_in w (o + FRET)) w o

-- a note of a file of version v, by its words
abbrev pub note_in : List ℕ → (v : ℕ) → List ℕ → ℕ → NoteIs
note_in s v w o = note_bytes s v (byte_in w (o + FLAGS)) w o

-- a note but for its bend, by its string: the functions of `field` give its fields
abbrev pub read_in : (v : ℕ) → List ℕ → ℕ → NoteRead
read_in v w i = (note_in [] v w (start i)).read

-- whether a note has flags of effects
unfoldable pub effects_given : List ℕ → ℕ → Bool
effects_given w i = not (eqb (byte_in w (start i + FIRST)) 0) || not (eqb (byte_in w (start i + MORE)) 0)

-- whether it has an accent, of any version, or flags of effects
unfoldable pub voiced_in : List ℕ → ℕ → Bool
voiced_in w i = (read_in 0 w i).accent || ((read_in 0 w i).heavy_accent || effects_given w i)

-- whether it has fingers, of either hand
unfoldable pub fingered_in : List ℕ → ℕ → Bool
fingered_in w i = has (byte_in w (start i + FLAGS)) 0x80

-- a note without effects and a bend
pub record WithoutEffects (v : ℕ) (w : List ℕ) (i : ℕ) : Type 0 where
  pub marks : (read_in v w i).effects ≡ no_marks
  pub bend : (bend_at w (start i)).count ≡ 0

-- and without accents
pub record Plain (v : ℕ) (w : List ℕ) (i : ℕ) : Type 0 where
  pub heavy : (read_in v w i).heavy_accent ≡ false
  pub light : (read_in v w i).accent ≡ false
  pub effects : WithoutEffects v w i

-- ---- the notes of a beat
abbrev pub seven : {A : Type 0} → (ℕ → A) → List A
seven f = f 0 ∷ f 1 ∷ f 2 ∷ f 3 ∷ f 4 ∷ f 5 ∷ f 6 ∷ []

unfoldable pub string_note : List ℕ → (v strings : ℕ) → List ℕ → ℕ → NoteIs
string_note s v strings w i = pick (has strings (string_bit i)) (note_in s v w (start i)) no_note

-- a string whose bit is clear has no note, whatever its words are
unfoldable pub notes_in : List ℕ → (v strings : ℕ) → List ℕ → List NoteIs
notes_in s v strings w = seven (string_note s v strings w)

-- the strings of a set of bits, from bit 6 down: the first of them, 7 where there is none; and those after it
unfoldable pub first_string : ℕ → ℕ
first_string mask = count_leading_zeros 32 (mask % 128) - 25

unfoldable pub other_strings : ℕ → ℕ → ℕ
other_strings mask i = bit_and mask (63 / 2 ^ (i % 8))

-- ---- what code that stores words has to show
-- the words below n are as they were
pub record Kept (n : ℕ) (before after : List ℕ) : Type 0 where
  pub same : (k : ℕ) → k < n → get_or after k 0 ≡ get_or before k 0

-- a word, or a byte in a word, is stored
pub record Put (k x : ℕ) (before after : List ℕ) : Type 0 where
  pub is : get_or after k 0 ≡ x
  pub below : Kept k before after

pub record Stored (k x : ℕ) (before after : List ℕ) : Type 0 where
  pub is : byte_in after k ≡ x
  pub below : Kept k before after

-- a program of at most n bytes is read into words from k on; a is what they mean
pub record Fills {A : Type 0} (p : Prog A) (n : ℕ) (s : List ℕ) (at k : ℕ) (before after : List ℕ) (a : A) (next : ℕ) : Type 0 where
  pub reads : Padded p s at a next
  pub below : Kept k before after
  pub near : next ≤ at + n

-- the same to a place
pub record FillsTo {A : Type 0} (p : Prog A) (s : List ℕ) (at k : ℕ) (before after : List ℕ) (a : A) (to : Place) : Type 0 where
  pub reads : Arrives p s at a to
  pub below : Kept k before after

-- what stands after the fret, whatever was read before
pub record EndTo (v flags : ℕ) (s : List ℕ) (at o : ℕ) (before after : List ℕ) (to : Place) : Type 0 where
  pub reads : (kind : ℕ) (stored : Option ℕ) (fret : ℕ) → Arrives (note_end v flags kind stored fret) s at (end_at s v flags kind stored fret after o) to
  pub below : Kept (o + LEFT) before after

-- ---- what is done for each string of a set of bits, in the order of strings
unfoldable pub over_from : {S : Type 0} → (n k mask : ℕ) → (ℕ → S → S) → S → S
over_from zero k mask f st = st
over_from (suc n) k mask f st = over_from n (k + 1) mask f (pick (has mask (string_bit k)) (f k st) st)

unfoldable pub over_strings : {S : Type 0} → (mask : ℕ) → (ℕ → S → S) → S → S
over_strings mask f st = over_from 7 0 mask f st
