-- What is stored of a kind is loaded again. Laws only.
use Rattle.std.specs.Prelude.{None, Option, Some}
use Prim.Native.Nat.{ℕ, ◌+◌, ◌-◌, ◌%◌, ◌<◌}
use mathlib.Core.Path.{◌≡◌, refl, ap}
use mathlib.Core.Bool.{Bool, true, false}
use native.Mathlib.Omega.{arith}
use native.Mathlib.Nat.{mod-eq_of_lt}
use borrow.Author.Tests.{ne_eqb, lt-ltb, le-ltb}
use lib.IntN.{ℤ, pos, negsuc}
use lib.Signed.{mag}
use mir.Syntax.{w8, w16}
use mir.Val.{SFits}
use Rattle.bin.specs.Signed.{signed, unsigned}
use Rattle.model.specs.declared.EndingPlace.{EndingPlace}
use Rattle.model.specs.declared.EndingPlace.TheVariants.{NoPlace, Begin, Mid, End, BeginEnd}
use Rattle.model.specs.declared.Direction.{Direction}
use Rattle.model.specs.declared.Direction.TheVariants.{NoDirection, Coda, Segno, Fine, DaCapo, DaCapoAlCoda, DaCapoAlFine, DalSegno, DalSegnoAlCoda, DalSegnoAlFine, ToCoda}
use Rattle.model.specs.declared.Clef.{Clef}
use Rattle.model.specs.declared.Clef.TheVariants.{Treble, Bass, Percussion}
use Rattle.model.specs.declared.RowKind.{RowKind}
use Rattle.model.specs.declared.RowKind.TheVariants.{Beat, Grace}
use Rattle.model.specs.declared.Duration.{Duration}
use Rattle.model.specs.declared.Duration.TheVariants.{Whole, Half, Quarter, Eighth, Sixteenth, ThirtySecond, SixtyFourth}
use Rattle.model.specs.declared.Technique.{Technique}
use Rattle.model.specs.declared.Technique.TheVariants.{NoTechnique, Bend, Hammer, PullOff, Slide}
use Rattle.model.specs.declared.TechniqueText.{TechniqueText}
use Rattle.model.specs.declared.TechniqueText.TheVariants.{NoText, PalmMute, LetRing, HammerMark}
use Rattle.model.specs.declared.Dynamic.{Dynamic}
use Rattle.model.specs.declared.Dynamic.TheVariants.{NoDynamic, Ppp, Pp, Piano, Mp, Mf, Forte, Ff, Fff}
use Rattle.model.specs.declared.Articulation.{Articulation}
use Rattle.model.specs.declared.Articulation.TheVariants.{Marcato, Accent, Vibrato, Staccato, Harmonic, Trill, Tremolo1, Tremolo2, Tremolo3, UpBow, DownBow, Tap, Falloff, Doit, Scoop, Plop}
use Rattle.model.specs.declared.Arpeggio.{Arpeggio}
use Rattle.model.specs.declared.Arpeggio.TheVariants.{NoArpeggio, Up, Down}
use Rattle.model.specs.declared.NoteHead.{NoteHead}
use Rattle.model.specs.declared.NoteHead.TheVariants.{Normal, Cross}
use Rattle.model.specs.declared.Ottava.{Ottava}
use Rattle.model.specs.declared.Ottava.TheVariants.{NoOttava, Va8, Vb8, Ma15, Mb15}
use Rattle.model.specs.declared.Finger.{Finger}
use Rattle.model.specs.declared.Finger.TheVariants.{NoFinger, Thumb, Index, Middle, Ring, Little}
use Rattle.model.specs.declared.Key.{Key}
use Rattle.model.specs.declared.Key.TheVariants.{NoKey, Fifths}
use Rattle.model.specs.declared.Tuplet.{Tuplet}
use Rattle.model.specs.declared.TabPosition.{TabPosition}
use Rattle.model.specs.declared.Mode.TheVariants.{Major, Minor}
use Rattle.model.specs.declared.Cents.{Cents}
use Rattle.model.proofs.Fits.{KeyFits, EndingFits, PassesFit, TempoFits, ProgramFits, TupletFits, HeightFits, PositionFits}
use Rattle.model.specs.Kinds.{ending_place_word, ending_place_of, direction_word, direction_of, clef_word, clef_of, row_kind_word, row_kind_of, duration_word, duration_of, technique_word, technique_of, technique_text_word, technique_text_of, dynamic_word, dynamic_of, articulation_word, articulation_of, arpeggio_word, arpeggio_of, note_head_word, note_head_of, ottava_word, ottava_of, finger_word, finger_of, flag_word, flag_of, mode_word, fifths_word, key_of, ending_word, ending_of, passes_word, passes_of, tempo_word, tempo_of, program_word, program_of, actual_word, normal_word, tuplet_of, string_word, fret_word, position_of, cents_word, cents_of, peak_word, height_word, height_of}

-- ---- small kinds

pub ending_place_back : (x : EndingPlace) → ending_place_of (ending_place_word x) ≡ x
unfolding ending_place_of
ending_place_back NoPlace = refl
ending_place_back Begin = refl
ending_place_back Mid = refl
ending_place_back End = refl
ending_place_back BeginEnd = refl

pub direction_back : (x : Direction) → direction_of (direction_word x) ≡ x
unfolding direction_of
direction_back NoDirection = refl
direction_back Coda = refl
direction_back Segno = refl
direction_back Fine = refl
direction_back DaCapo = refl
direction_back DaCapoAlCoda = refl
direction_back DaCapoAlFine = refl
direction_back DalSegno = refl
direction_back DalSegnoAlCoda = refl
direction_back DalSegnoAlFine = refl
direction_back ToCoda = refl

pub clef_back : (x : Clef) → clef_of (clef_word x) ≡ x
unfolding clef_of
clef_back Treble = refl
clef_back Bass = refl
clef_back Percussion = refl

pub row_kind_back : (x : RowKind) → row_kind_of (row_kind_word x) ≡ x
unfolding row_kind_of
row_kind_back Beat = refl
row_kind_back Grace = refl

pub duration_back : (x : Duration) → duration_of (duration_word x) ≡ x
unfolding duration_of
duration_back Whole = refl
duration_back Half = refl
duration_back Quarter = refl
duration_back Eighth = refl
duration_back Sixteenth = refl
duration_back ThirtySecond = refl
duration_back SixtyFourth = refl

pub technique_back : (x : Technique) → technique_of (technique_word x) ≡ x
unfolding technique_of
technique_back NoTechnique = refl
technique_back Bend = refl
technique_back Hammer = refl
technique_back PullOff = refl
technique_back Slide = refl

pub technique_text_back : (x : TechniqueText) → technique_text_of (technique_text_word x) ≡ x
unfolding technique_text_of
technique_text_back NoText = refl
technique_text_back PalmMute = refl
technique_text_back LetRing = refl
technique_text_back HammerMark = refl

pub dynamic_back : (x : Dynamic) → dynamic_of (dynamic_word x) ≡ x
unfolding dynamic_of
dynamic_back NoDynamic = refl
dynamic_back Ppp = refl
dynamic_back Pp = refl
dynamic_back Piano = refl
dynamic_back Mp = refl
dynamic_back Mf = refl
dynamic_back Forte = refl
dynamic_back Ff = refl
dynamic_back Fff = refl

pub articulation_back : (x : Articulation) → articulation_of (articulation_word x) ≡ x
unfolding articulation_of
articulation_back Marcato = refl
articulation_back Accent = refl
articulation_back Vibrato = refl
articulation_back Staccato = refl
articulation_back Harmonic = refl
articulation_back Trill = refl
articulation_back Tremolo1 = refl
articulation_back Tremolo2 = refl
articulation_back Tremolo3 = refl
articulation_back UpBow = refl
articulation_back DownBow = refl
articulation_back Tap = refl
articulation_back Falloff = refl
articulation_back Doit = refl
articulation_back Scoop = refl
articulation_back Plop = refl

pub arpeggio_back : (x : Arpeggio) → arpeggio_of (arpeggio_word x) ≡ x
unfolding arpeggio_of
arpeggio_back NoArpeggio = refl
arpeggio_back Up = refl
arpeggio_back Down = refl

pub note_head_back : (x : NoteHead) → note_head_of (note_head_word x) ≡ x
unfolding note_head_of
note_head_back Normal = refl
note_head_back Cross = refl

pub ottava_back : (x : Ottava) → ottava_of (ottava_word x) ≡ x
unfolding ottava_of
ottava_back NoOttava = refl
ottava_back Va8 = refl
ottava_back Vb8 = refl
ottava_back Ma15 = refl
ottava_back Mb15 = refl

pub finger_back : (x : Finger) → finger_of (finger_word x) ≡ x
unfolding finger_of
finger_back NoFinger = refl
finger_back Thumb = refl
finger_back Index = refl
finger_back Middle = refl
finger_back Ring = refl
finger_back Little = refl

-- ---- signed numbers: stored as two's complement of 32 bits, loaded by the low bits of a width, of whose range half is the half

low_bits : (half : ℕ) (z : ℤ) → ((n : ℕ) → n < half → n % (half + half) ≡ n) → ((n : ℕ) → n < half → (4294967295 - n) % (half + half) ≡ half + half - 1 - n)
    → mag z < half → signed half (unsigned 2147483648 z % (half + half)) ≡ z
unfolding signed unsigned
low_bits half (pos n) e f h = rw (e n h, lt-ltb n half h)
low_bits half (negsuc n) e f h =
    let k : half + half - 1 - (half + half - 1 - n) ≡ n = omega arith in
    rw (f n h, le-ltb (half + half - 1 - n) half (omega arith), k)

signed_back8 : (z : ℤ) → SFits w8 z → signed 128 (unsigned 2147483648 z % 256) ≡ z
signed_back8 z h = low_bits 128 z (λ n k. omega arith) (λ n k. omega arith) h.sfits

signed_back16 : (z : ℤ) → SFits w16 z → signed 32768 (unsigned 2147483648 z % 65536) ≡ z
signed_back16 z h = low_bits 32768 z (λ n k. omega arith) (λ n k. omega arith) h.sfits

-- ---- kinds that hold a number

pub flag_back : (b : Bool) → flag_of (flag_word b) ≡ b
unfolding flag_of
flag_back true = refl
flag_back false = refl

pub key_back : (k : Key) → KeyFits k → key_of (mode_word k) (fifths_word k) ≡ k
unfolding key_of
key_back NoKey f = refl
key_back (Fifths z Major) f = ap (λ (y : ℤ). Fifths y Major) (signed_back8 z f)
key_back (Fifths z Minor) f = ap (λ (y : ℤ). Fifths y Minor) (signed_back8 z f)

pub ending_back : (x : Option ℕ) → EndingFits x → ending_of (ending_word x) ≡ x
unfolding ending_of
ending_back None f = refl
ending_back (Some n) f = rw (ne_eqb n 0 (omega arith), mod-eq_of_lt f.1)

pub passes_back : (x : Option ℕ) → PassesFit x → passes_of (passes_word x) ≡ x
unfolding passes_of
passes_back None f = refl
passes_back (Some m) f = rw (ne_eqb m 0 (omega arith), mod-eq_of_lt f.1)

pub tempo_back : (x : Option ℕ) → TempoFits x → tempo_of (tempo_word x) ≡ x
unfolding tempo_of
tempo_back None f = refl
tempo_back (Some n) f = rw (ne_eqb n 0 (omega arith), mod-eq_of_lt f.1)

pub program_back : (x : Option ℕ) → ProgramFits x → program_of (program_word x) ≡ x
unfolding program_of
program_back None f = refl
program_back (Some n) f = let e : (n + 1 - 1) % 256 ≡ n = omega arith in rw (ne_eqb (n + 1) 0 (omega arith), e)

pub tuplet_back : (x : Option Tuplet) → TupletFits x → tuplet_of (actual_word x) (normal_word x) ≡ x
unfolding tuplet_of
tuplet_back None f = refl
tuplet_back (Some ratio) f = rw (ne_eqb ratio.actual 0 (omega arith), mod-eq_of_lt f.1, mod-eq_of_lt f.2)

pub position_back : (x : Option TabPosition) → PositionFits x → position_of (string_word x) (fret_word x) ≡ x
unfolding position_of
position_back None f = refl
position_back (Some at) f = rw (ne_eqb at.string 0 (omega arith), mod-eq_of_lt f.1, mod-eq_of_lt f.2)

pub cents_back : (x : Cents) → SFits w16 x.0 → cents_of (cents_word x) ≡ x
cents_back x f = rw (signed_back16 x.0 f)

pub height_back : (x : Option Cents) → HeightFits x → height_of (peak_word x) (height_word x) ≡ x
unfolding height_of
height_back None f = refl
height_back (Some c) f = ap Some (cents_back c f)
