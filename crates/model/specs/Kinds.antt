-- The words of the small kinds. A kind's list has its cases in the order of their words, from 0; any other word stands for the case
-- that is named last in its `..Of`.
use Rattle.std.specs.Prelude.{ℕ, ◌+◌, ◌-◌, ◌%◌, Bool, true, false, not, List, [], ◌∷◌, get_or, eqb, leb, ℤ, pos, negsuc, None, Option, Some}
use Rattle.format.specs.Text.{pick}
use Rattle.bin.specs.Signed.{signed, unsigned}
use Rattle.model.specs.declared.Mode.TheVariants.{Major, Minor}
use Rattle.model.specs.declared.Key.{Key}
use Rattle.model.specs.declared.Key.TheVariants.{NoKey, Fifths}
use Rattle.model.specs.declared.Tuplet.{Tuplet}
use Rattle.model.specs.declared.TabPosition.{TabPosition}
use Rattle.model.specs.declared.Cents.{Cents}
use Rattle.model.specs.declared.PerMille.{PerMille}
use Rattle.model.specs.declared.EndingPlace.{EndingPlace}
use Rattle.model.specs.declared.EndingPlace.TheVariants.{NoPlace, Begin, Mid, End, BeginEnd}
use Rattle.model.specs.declared.Direction.{Direction}
use Rattle.model.specs.declared.Direction.TheVariants.{NoDirection, Coda, Segno, Fine, DaCapo, DaCapoAlCoda, DaCapoAlFine, DalSegno, DalSegnoAlCoda, DalSegnoAlFine, ToCoda}
use Rattle.model.specs.declared.Clef.{Clef}
use Rattle.model.specs.declared.Clef.TheVariants.{Treble, Bass, Percussion}
use Rattle.model.specs.declared.RowKind.{RowKind}
use Rattle.model.specs.declared.RowKind.TheVariants.{Beat, Grace}
use Rattle.model.specs.declared.Duration.{Duration}
use Rattle.model.specs.declared.Duration.TheVariants.{Whole, Half, Quarter, Eighth, Sixteenth, ThirtySecond, SixtyFourth}
use Rattle.model.specs.declared.Technique.{Technique}
use Rattle.model.specs.declared.Technique.TheVariants.{NoTechnique, Bend, Hammer, PullOff, Slide}
use Rattle.model.specs.declared.TechniqueText.{TechniqueText}
use Rattle.model.specs.declared.TechniqueText.TheVariants.{NoText, PalmMute, LetRing, HammerMark}
use Rattle.model.specs.declared.Dynamic.{Dynamic}
use Rattle.model.specs.declared.Dynamic.TheVariants.{NoDynamic, Ppp, Pp, Piano, Mp, Mf, Forte, Ff, Fff}
use Rattle.model.specs.declared.Articulation.{Articulation}
use Rattle.model.specs.declared.Articulation.TheVariants.{Marcato, Accent, Vibrato, Staccato, Harmonic, Trill, Tremolo1, Tremolo2, Tremolo3, UpBow, DownBow, Tap, Falloff, Doit, Scoop, Plop}
use Rattle.model.specs.declared.Arpeggio.{Arpeggio}
use Rattle.model.specs.declared.Arpeggio.TheVariants.{NoArpeggio, Up, Down}
use Rattle.model.specs.declared.NoteHead.{NoteHead}
use Rattle.model.specs.declared.NoteHead.TheVariants.{Normal, Cross}
use Rattle.model.specs.declared.Ottava.{Ottava}
use Rattle.model.specs.declared.Ottava.TheVariants.{NoOttava, Va8, Vb8, Ma15, Mb15}
use Rattle.model.specs.declared.Finger.{Finger}
use Rattle.model.specs.declared.Finger.TheVariants.{NoFinger, Thumb, Index, Middle, Ring, Little}

-- a bar among neighbours of its ending number
abbrev pub ending_place_word : EndingPlace → ℕ
ending_place_word NoPlace = 0
ending_place_word Begin = 1
ending_place_word Mid = 2
ending_place_word End = 3
ending_place_word BeginEnd = 4

abbrev pub ending_place_kinds : List EndingPlace
ending_place_kinds = NoPlace ∷ Begin ∷ Mid ∷ End ∷ BeginEnd ∷ []

unfoldable pub ending_place_of : ℕ → EndingPlace
ending_place_of w = get_or ending_place_kinds w NoPlace

-- a direction of a bar
abbrev pub direction_word : Direction → ℕ
direction_word NoDirection = 0
direction_word Coda = 1
direction_word Segno = 2
direction_word Fine = 3
direction_word DaCapo = 4
direction_word DaCapoAlCoda = 5
direction_word DaCapoAlFine = 6
direction_word DalSegno = 7
direction_word DalSegnoAlCoda = 8
direction_word DalSegnoAlFine = 9
direction_word ToCoda = 10

abbrev pub direction_kinds : List Direction
direction_kinds = NoDirection ∷ Coda ∷ Segno ∷ Fine ∷ DaCapo ∷ DaCapoAlCoda ∷ DaCapoAlFine ∷ DalSegno ∷ DalSegnoAlCoda ∷ DalSegnoAlFine ∷ ToCoda ∷ []

unfoldable pub direction_of : ℕ → Direction
direction_of w = get_or direction_kinds w NoDirection

-- a clef
abbrev pub clef_word : Clef → ℕ
clef_word Treble = 0
clef_word Bass = 1
clef_word Percussion = 2

abbrev pub clef_kinds : List Clef
clef_kinds = Treble ∷ Bass ∷ Percussion ∷ []

unfoldable pub clef_of : ℕ → Clef
clef_of w = get_or clef_kinds w Treble

-- beat or grace
abbrev pub row_kind_word : RowKind → ℕ
row_kind_word Beat = 0
row_kind_word Grace = 1

abbrev pub row_kind_kinds : List RowKind
row_kind_kinds = Beat ∷ Grace ∷ []

unfoldable pub row_kind_of : ℕ → RowKind
row_kind_of w = get_or row_kind_kinds w Beat

-- a duration: 1 over 2 to the word
abbrev pub duration_word : Duration → ℕ
duration_word Whole = 0
duration_word Half = 1
duration_word Quarter = 2
duration_word Eighth = 3
duration_word Sixteenth = 4
duration_word ThirtySecond = 5
duration_word SixtyFourth = 6

abbrev pub duration_kinds : List Duration
duration_kinds = Whole ∷ Half ∷ Quarter ∷ Eighth ∷ Sixteenth ∷ ThirtySecond ∷ SixtyFourth ∷ []

unfoldable pub duration_of : ℕ → Duration
duration_of w = get_or duration_kinds w Quarter

-- a technique
abbrev pub technique_word : Technique → ℕ
technique_word NoTechnique = 0
technique_word Bend = 1
technique_word Hammer = 2
technique_word PullOff = 3
technique_word Slide = 4

abbrev pub technique_kinds : List Technique
technique_kinds = NoTechnique ∷ Bend ∷ Hammer ∷ PullOff ∷ Slide ∷ []

unfoldable pub technique_of : ℕ → Technique
technique_of w = get_or technique_kinds w NoTechnique

-- a technique's text, and the mark that stands there until hammers are resolved
abbrev pub technique_text_word : TechniqueText → ℕ
technique_text_word NoText = 0
technique_text_word PalmMute = 1
technique_text_word LetRing = 2
technique_text_word HammerMark = 3

abbrev pub technique_text_kinds : List TechniqueText
technique_text_kinds = NoText ∷ PalmMute ∷ LetRing ∷ HammerMark ∷ []

unfoldable pub technique_text_of : ℕ → TechniqueText
technique_text_of w = get_or technique_text_kinds w NoText

-- a dynamic: its level
abbrev pub dynamic_word : Dynamic → ℕ
dynamic_word NoDynamic = 0
dynamic_word Ppp = 1
dynamic_word Pp = 2
dynamic_word Piano = 3
dynamic_word Mp = 4
dynamic_word Mf = 5
dynamic_word Forte = 6
dynamic_word Ff = 7
dynamic_word Fff = 8

abbrev pub dynamic_kinds : List Dynamic
dynamic_kinds = NoDynamic ∷ Ppp ∷ Pp ∷ Piano ∷ Mp ∷ Mf ∷ Forte ∷ Ff ∷ Fff ∷ []

unfoldable pub dynamic_of : ℕ → Dynamic
dynamic_of w = get_or dynamic_kinds w NoDynamic

-- an articulation: its hexadecimal digit
abbrev pub articulation_word : Articulation → ℕ
articulation_word Marcato = 0
articulation_word Accent = 1
articulation_word Vibrato = 2
articulation_word Staccato = 3
articulation_word Harmonic = 4
articulation_word Trill = 5
articulation_word Tremolo1 = 6
articulation_word Tremolo2 = 7
articulation_word Tremolo3 = 8
articulation_word UpBow = 9
articulation_word DownBow = 10
articulation_word Tap = 11
articulation_word Falloff = 12
articulation_word Doit = 13
articulation_word Scoop = 14
articulation_word Plop = 15

abbrev pub articulation_kinds : List Articulation
articulation_kinds = Marcato ∷ Accent ∷ Vibrato ∷ Staccato ∷ Harmonic ∷ Trill ∷ Tremolo1 ∷ Tremolo2 ∷ Tremolo3 ∷ UpBow ∷ DownBow ∷ Tap ∷ Falloff ∷ Doit ∷ Scoop ∷ []

unfoldable pub articulation_of : ℕ → Articulation
articulation_of w = get_or articulation_kinds w Plop

-- an arpeggio
abbrev pub arpeggio_word : Arpeggio → ℕ
arpeggio_word NoArpeggio = 0
arpeggio_word Up = 1
arpeggio_word Down = 2

abbrev pub arpeggio_kinds : List Arpeggio
arpeggio_kinds = NoArpeggio ∷ Up ∷ Down ∷ []

unfoldable pub arpeggio_of : ℕ → Arpeggio
arpeggio_of w = get_or arpeggio_kinds w NoArpeggio

-- a note head
abbrev pub note_head_word : NoteHead → ℕ
note_head_word Normal = 0
note_head_word Cross = 1

abbrev pub note_head_kinds : List NoteHead
note_head_kinds = Normal ∷ Cross ∷ []

unfoldable pub note_head_of : ℕ → NoteHead
note_head_of w = get_or note_head_kinds w Normal

-- an ottava
abbrev pub ottava_word : Ottava → ℕ
ottava_word NoOttava = 0
ottava_word Va8 = 1
ottava_word Vb8 = 2
ottava_word Ma15 = 3
ottava_word Mb15 = 4

abbrev pub ottava_kinds : List Ottava
ottava_kinds = NoOttava ∷ Va8 ∷ Vb8 ∷ Ma15 ∷ Mb15 ∷ []

unfoldable pub ottava_of : ℕ → Ottava
ottava_of w = get_or ottava_kinds w NoOttava

-- a finger
abbrev pub finger_word : Finger → ℕ
finger_word NoFinger = 0
finger_word Thumb = 1
finger_word Index = 2
finger_word Middle = 3
finger_word Ring = 4
finger_word Little = 5

abbrev pub finger_kinds : List Finger
finger_kinds = NoFinger ∷ Thumb ∷ Index ∷ Middle ∷ Ring ∷ Little ∷ []

unfoldable pub finger_of : ℕ → Finger
finger_of w = get_or finger_kinds w NoFinger

-- ---- kinds that hold a number

-- a flag is 0 or 1; any other word is a flag that is set
abbrev pub flag_word : Bool → ℕ
flag_word false = 0
flag_word true = 1

unfoldable pub flag_of : ℕ → Bool
flag_of w = not (eqb w 0)

-- a key is two words: 0 for none, 1 for major, 2 for minor; and its fifths, two's complement of 32 bits; the low 8 bits count
abbrev pub mode_word : Key → ℕ
mode_word NoKey = 0
mode_word (Fifths z Major) = 1
mode_word (Fifths z Minor) = 2

abbrev pub fifths_word : Key → ℕ
fifths_word NoKey = 0
fifths_word (Fifths z m) = unsigned 2147483648 z

unfoldable pub key_of : ℕ → ℕ → Key
key_of m w = pick (eqb m 1) (Fifths (signed 128 (w % 256)) Major) (pick (eqb m 2) (Fifths (signed 128 (w % 256)) Minor) NoKey)

-- an ending's number, 0 for none
abbrev pub ending_word : Option ℕ → ℕ
ending_word None = 0
ending_word (Some n) = n

unfoldable pub ending_of : ℕ → Option ℕ
ending_of w = pick (eqb w 0) None (Some (w % 256))

-- an ending's mask of passes, 0 for none
abbrev pub passes_word : Option ℕ → ℕ
passes_word None = 0
passes_word (Some m) = m

unfoldable pub passes_of : ℕ → Option ℕ
passes_of w = pick (eqb w 0) None (Some (w % 256))

-- a tempo, 0 for none
abbrev pub tempo_word : Option ℕ → ℕ
tempo_word None = 0
tempo_word (Some n) = n

unfoldable pub tempo_of : ℕ → Option ℕ
tempo_of w = pick (eqb w 0) None (Some (w % 65536))

-- a number of the file in 1..999 is a tempo, any other is none
unfoldable pub tempo_from : ℕ → Option ℕ
tempo_from n = pick (leb 1 n) (pick (leb n 999) (Some n) None) None

-- a program and one, 0 for none
abbrev pub program_word : Option ℕ → ℕ
program_word None = 0
program_word (Some n) = n + 1

unfoldable pub program_of : ℕ → Option ℕ
program_of w = pick (eqb w 0) None (Some ((w - 1) % 256))

-- a tuplet is two words: so many notes, 0 for no tuplet; in the time of so many
abbrev pub actual_word : Option Tuplet → ℕ
actual_word None = 0
actual_word (Some ratio) = ratio.actual

abbrev pub normal_word : Option Tuplet → ℕ
normal_word None = 0
normal_word (Some ratio) = ratio.normal

unfoldable pub tuplet_of : ℕ → ℕ → Option Tuplet
tuplet_of a n = pick (eqb a 0) None (Some (record { actual = a % 256; normal = n % 256 }))

-- a position is two words: the string, 0 off tablature; and the fret
abbrev pub string_word : Option TabPosition → ℕ
string_word None = 0
string_word (Some at) = at.string

abbrev pub fret_word : Option TabPosition → ℕ
fret_word None = 0
fret_word (Some at) = at.fret

unfoldable pub position_of : ℕ → ℕ → Option TabPosition
position_of s f = pick (eqb s 0) None (Some (record { string = s % 256; fret = f % 256 }))

-- cents, two's complement of 32 bits; the low 16 bits count
abbrev pub cents_word : Cents → ℕ
cents_word c = unsigned 2147483648 c.0

abbrev pub cents_of : ℕ → Cents
cents_of w = record { 0 = signed 32768 (w % 65536) }

abbrev pub per_mille_of : ℕ → PerMille
per_mille_of w = record { 0 = w % 65536 }

-- a height is two words: whether there is one; and its cents
abbrev pub peak_word : Option Cents → ℕ
peak_word None = 0
peak_word (Some c) = 1

abbrev pub height_word : Option Cents → ℕ
height_word None = 0
height_word (Some c) = cents_word c

unfoldable pub height_of : ℕ → ℕ → Option Cents
height_of p w = pick (eqb p 0) None (Some (cents_of w))

-- ---- a duration's own codes are -2, -1, 1, 2, 3 and 4; every other code is a quarter (the lists have 0 to 4, and -1 and -2)
abbrev pub duration_code : ℤ → Duration
duration_code (pos n) = get_or (Quarter ∷ Eighth ∷ Sixteenth ∷ ThirtySecond ∷ SixtyFourth ∷ []) n Quarter
duration_code (negsuc n) = get_or (Half ∷ Whole ∷ []) n Quarter

-- the length of a duration in sixty-fourths of a whole note
abbrev pub units_of : Duration → ℕ
units_of Whole = 64
units_of Half = 32
units_of Quarter = 16
units_of Eighth = 8
units_of Sixteenth = 4
units_of ThirtySecond = 2
units_of SixtyFourth = 1
