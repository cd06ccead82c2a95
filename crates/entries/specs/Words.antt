-- The words of an entry of each table, the entry that words stand for, and entry i of a table. A word that is missing is 0.
use Rattle.std.specs.Prelude.{ℕ, ◌+◌, ◌*◌, ◌/◌, ◌%◌, List, [], ◌∷◌, ◌++◌, length, get_or, eqb, None, Option, Some}
use Rattle.format.specs.declared.Range.{Range}
use Rattle.format.specs.Text.{pick}
use Rattle.tables.specs.Table.{entry}
use Rattle.model.specs.Kinds.{ending_place_word, ending_place_of, direction_word, direction_of, clef_word, clef_of, row_kind_word, row_kind_of, duration_word, duration_of, technique_word, technique_of, technique_text_word, technique_text_of, dynamic_word, dynamic_of, arpeggio_word, arpeggio_of, note_head_word, note_head_of, ottava_word, ottava_of, mode_word, fifths_word, key_of, ending_word, ending_of, passes_word, passes_of, tempo_word, tempo_of, program_word, program_of, actual_word, normal_word, tuplet_of, peak_word, height_word, height_of, flag_word, flag_of, string_word, fret_word, position_of, finger_word, finger_of, cents_word, cents_of, per_mille_of}
use Rattle.model.specs.declared.Member.{Member}
use Rattle.model.specs.declared.Point.{Point}
use Rattle.model.specs.declared.Text.{Text}
use Rattle.model.specs.declared.Articulations.{Articulations}
use Rattle.model.specs.declared.Changes.{Changes}
use Rattle.model.specs.declared.Expression.{Expression}
use Rattle.model.specs.declared.NoteValue.{NoteValue}
use Rattle.model.specs.declared.OttavaMarks.{OttavaMarks}
use Rattle.model.specs.declared.RowPlace.{RowPlace}
use Rattle.model.specs.declared.Playing.{Playing}
use Rattle.model.specs.declared.Repeats.{Repeats}
use Rattle.model.specs.declared.Time.{Time}
use Rattle.model.specs.declared.Tunings.{Tunings}
use Rattle.model.specs.declared.Bar.{Bar}
use Rattle.model.specs.declared.Track.{Track}
use Rattle.model.specs.declared.Row.{Row}

-- Entry i of a table of entries of K words, or none where the table does not hold it whole; f says what words stand for
unfoldable pub entry_at : {A : Type 0} → (List ℕ → A) → List ℕ → (i K : ℕ) → Option A
entry_at f t i K = pick (eqb (length (entry t i K)) 0) None (Some (f (entry t i K)))

-- a text's range is two words, start and end
abbrev pub range_of : ℕ → ℕ → Range
range_of a b = record { start = a; end = b }

-- ---- bars: time, key, what changed, repeats and double bar, ending, passes, place, marker, direction, tempo
abbrev pub bar_stride : ℕ
bar_stride = 16

unfoldable pub bar_words : Bar → List ℕ
bar_words b =
    b.time.numerator ∷ b.time.denominator ∷ mode_word b.key ∷ fifths_word b.key
    ∷ flag_word b.changed.time ∷ flag_word b.changed.key
    ∷ flag_word b.repeats.start ∷ flag_word b.repeats.end ∷ flag_word b.repeats.double
    ∷ ending_word b.ending ∷ passes_word b.passes ∷ ending_place_word b.place
    ∷ b.marker.start % 4294967296 ∷ b.marker.end % 4294967296 ∷ direction_word b.direction ∷ tempo_word b.tempo ∷ []

-- words that are set again later
abbrev pub place_at : ℕ
place_at = 11

abbrev pub tempo_at : ℕ
tempo_at = 15

unfoldable pub time_of : List ℕ → Time
time_of l = record { numerator = get_or l 0 0 % 256; denominator = get_or l 1 0 % 256 }

unfoldable pub changes_of : List ℕ → Changes
changes_of l = record { time = flag_of (get_or l 4 0); key = flag_of (get_or l 5 0) }

unfoldable pub repeats_of : List ℕ → Repeats
repeats_of l = record { start = flag_of (get_or l 6 0); end = flag_of (get_or l 7 0); double = flag_of (get_or l 8 0) }

unfoldable pub bar_of : List ℕ → Bar
bar_of l = record {
  time = time_of l;
  key = key_of (get_or l 2 0) (get_or l 3 0);
  changed = changes_of l;
  repeats = repeats_of l;
  ending = ending_of (get_or l 9 0);
  passes = passes_of (get_or l 10 0);
  place = ending_place_of (get_or l 11 0);
  marker = range_of (get_or l 12 0) (get_or l 13 0);
  direction = direction_of (get_or l 14 0);
  tempo = tempo_of (get_or l 15 0);
}

abbrev pub bar_at : List ℕ → ℕ → Option Bar
bar_at t i = entry_at bar_of t i bar_stride

-- ---- tracks: name, strings and tunings, capo, percussion, tablature, clef, channel, program
abbrev pub track_stride : ℕ
track_stride = 16

unfoldable pub track_words : Track → List ℕ
track_words x =
    x.name.start % 4294967296 ∷ x.name.end % 4294967296
    ∷ x.tunings.strings ∷ x.tunings.first ∷ x.tunings.second ∷ x.tunings.third
    ∷ x.tunings.fourth ∷ x.tunings.fifth ∷ x.tunings.sixth ∷ x.tunings.seventh
    ∷ x.capo ∷ flag_word x.percussion ∷ flag_word x.tablature ∷ clef_word x.clef ∷ x.channel ∷ program_word x.program ∷ []

unfoldable pub tunings_of : List ℕ → Tunings
tunings_of l = record {
  strings = get_or l 2 0 % 256;
  first = get_or l 3 0 % 256;
  second = get_or l 4 0 % 256;
  third = get_or l 5 0 % 256;
  fourth = get_or l 6 0 % 256;
  fifth = get_or l 7 0 % 256;
  sixth = get_or l 8 0 % 256;
  seventh = get_or l 9 0 % 256;
}

unfoldable pub track_of : List ℕ → Track
track_of l = record {
  name = range_of (get_or l 0 0) (get_or l 1 0);
  tunings = tunings_of l;
  capo = get_or l 10 0 % 256;
  percussion = flag_of (get_or l 11 0);
  tablature = flag_of (get_or l 12 0);
  clef = clef_of (get_or l 13 0);
  channel = get_or l 14 0 % 256;
  program = program_of (get_or l 15 0);
}

abbrev pub track_at : List ℕ → ℕ → Option Track
track_at t i = entry_at track_of t i track_stride

-- ---- rows
abbrev pub row_stride : ℕ
row_stride = 30

-- place, kind, rest, duration, dot, tuplet, members; technique text, technique, curve, height
unfoldable pub front_words : Row → List ℕ
front_words r =
    r.place.bar ∷ r.place.track ∷ r.place.voice ∷ row_kind_word r.kind ∷ flag_word r.rest
    ∷ duration_word r.value.duration ∷ flag_word r.value.dot ∷ actual_word r.value.tuplet ∷ normal_word r.value.tuplet
    ∷ r.members.first ∷ r.members.count
    ∷ technique_text_word r.playing.text ∷ technique_word r.playing.technique ∷ r.playing.curve.first ∷ r.playing.curve.count
    ∷ peak_word r.playing.height ∷ height_word r.playing.height ∷ []

-- dynamic, articulations (their number, and their digits in two words), arpeggio, note head; ottava start and end, chord name, finger,
-- the beat's start and end in the file
unfoldable pub back_words : Row → List ℕ
back_words r =
    dynamic_word r.expression.dynamic ∷ r.expression.articulations.count
    ∷ r.expression.articulations.digits / 4294967296 ∷ r.expression.articulations.digits % 4294967296
    ∷ arpeggio_word r.expression.arpeggio ∷ note_head_word r.expression.head
    ∷ ottava_word r.ottava.start ∷ flag_word r.ottava.end
    ∷ r.chord.start % 4294967296 ∷ r.chord.end % 4294967296 ∷ finger_word r.finger
    ∷ r.beat.start % 4294967296 ∷ r.beat.end % 4294967296 ∷ []

unfoldable pub row_words : Row → List ℕ
row_words r = front_words r ++ back_words r

-- words that are set again later
abbrev pub technique_at : ℕ
technique_at = 12

abbrev pub ottava_end_at : ℕ
ottava_end_at = 24

unfoldable pub place_of : List ℕ → RowPlace
place_of l = record { bar = get_or l 0 0; track = get_or l 1 0; voice = get_or l 2 0 }

unfoldable pub value_of : List ℕ → NoteValue
value_of l = record { duration = duration_of (get_or l 5 0); dot = flag_of (get_or l 6 0); tuplet = tuplet_of (get_or l 7 0) (get_or l 8 0) }

unfoldable pub playing_of : List ℕ → Playing
playing_of l = record {
  text = technique_text_of (get_or l 11 0);
  technique = technique_of (get_or l 12 0);
  curve = record { first = get_or l 13 0; count = get_or l 14 0 };
  height = height_of (get_or l 15 0) (get_or l 16 0);
}

unfoldable pub articulations_of : List ℕ → Articulations
articulations_of l = record { count = get_or l 18 0 % 256; digits = get_or l 19 0 * 4294967296 + get_or l 20 0 }

unfoldable pub expression_of : List ℕ → Expression
expression_of l = record {
  dynamic = dynamic_of (get_or l 17 0);
  articulations = articulations_of l;
  arpeggio = arpeggio_of (get_or l 21 0);
  head = note_head_of (get_or l 22 0);
}

unfoldable pub ottava_marks_of : List ℕ → OttavaMarks
ottava_marks_of l = record { start = ottava_of (get_or l 23 0); end = flag_of (get_or l 24 0) }

unfoldable pub row_of : List ℕ → Row
row_of l = record {
  place = place_of l;
  kind = row_kind_of (get_or l 3 0);
  rest = flag_of (get_or l 4 0);
  value = value_of l;
  members = record { first = get_or l 9 0; count = get_or l 10 0 };
  playing = playing_of l;
  expression = expression_of l;
  ottava = ottava_marks_of l;
  chord = range_of (get_or l 25 0) (get_or l 26 0);
  finger = finger_of (get_or l 27 0);
  beat = range_of (get_or l 28 0) (get_or l 29 0);
}

abbrev pub row_at : List ℕ → ℕ → Option Row
row_at t i = entry_at row_of t i row_stride

-- ---- members: key, flat preference, string and fret, ghost, tie end, tie start, finger
abbrev pub member_stride : ℕ
member_stride = 8

unfoldable pub member_words : Member → List ℕ
member_words m =
    m.key ∷ flag_word m.flat ∷ string_word m.position ∷ fret_word m.position
    ∷ flag_word m.ghosted ∷ flag_word m.ties.end ∷ flag_word m.ties.start ∷ finger_word m.finger ∷ []

-- a word that is set again later
abbrev pub tie_start_at : ℕ
tie_start_at = 6

unfoldable pub member_of : List ℕ → Member
member_of l = record {
  key = get_or l 0 0 % 256;
  flat = flag_of (get_or l 1 0);
  position = position_of (get_or l 2 0) (get_or l 3 0);
  ghosted = flag_of (get_or l 4 0);
  ties = record { end = flag_of (get_or l 5 0); start = flag_of (get_or l 6 0) };
  finger = finger_of (get_or l 7 0);
}

abbrev pub member_at : List ℕ → ℕ → Option Member
member_at t i = entry_at member_of t i member_stride

-- ---- curve points: position, height
abbrev pub point_stride : ℕ
point_stride = 2

unfoldable pub point_words : Point → List ℕ
point_words p = p.position.0 ∷ cents_word p.height ∷ []

unfoldable pub point_of : List ℕ → Point
point_of l = record { position = per_mille_of (get_or l 0 0); height = cents_of (get_or l 1 0) }

abbrev pub point_at : List ℕ → ℕ → Option Point
point_at t i = entry_at point_of t i point_stride

-- ---- texts: bar, track, range
abbrev pub text_stride : ℕ
text_stride = 4

unfoldable pub text_words : Text → List ℕ
text_words x = x.bar ∷ x.track ∷ x.range.start % 4294967296 ∷ x.range.end % 4294967296 ∷ []

unfoldable pub text_of : List ℕ → Text
text_of l = record { bar = get_or l 0 0; track = get_or l 1 0; range = range_of (get_or l 2 0) (get_or l 3 0) }

abbrev pub text_at : List ℕ → ℕ → Option Text
text_at t i = entry_at text_of t i text_stride
