-- What is kept of a file: the entries of the six tables, and what is remembered on the way. The tables may be anything that has the
-- operations below: lists of entries, for the definition of a score, or the words of slices, for the reader.
use Rattle.std.specs.Prelude.{ℕ, ◌+◌, ◌-◌, List, [], ◌∷◌, ◌++◌, Bool, true, false, not, ◌&&◌, get_or, length, set, replicate, eqb, ltb, None, Option, Some}
use Rattle.format.specs.Text.{TextRead, pick}
use Rattle.model.specs.declared.Bar.{Bar}
use Rattle.model.specs.declared.Dynamic.{Dynamic}
use Rattle.model.specs.declared.Dynamic.TheVariants.{NoDynamic}
use Rattle.model.specs.declared.Finger.{Finger}
use Rattle.model.specs.declared.Finger.TheVariants.{NoFinger}
use Rattle.model.specs.declared.Key.{Key}
use Rattle.model.specs.declared.Loss.{Loss}
use Rattle.model.specs.declared.Loss.TheVariants.{TripletFeel, UnsupportedDirection}
use Rattle.model.specs.declared.Member.{Member}
use Rattle.model.specs.declared.Ottava.TheVariants.{NoOttava}
use Rattle.model.specs.declared.OttavaMarks.{OttavaMarks}
use Rattle.model.specs.declared.RowPlace.{RowPlace}
use Rattle.model.specs.declared.Point.{Point}
use Rattle.model.specs.declared.Row.{Row}
use Rattle.model.specs.declared.RowKind.{RowKind}
use Rattle.model.specs.declared.RowKind.TheVariants.{Grace, Beat}
use Rattle.model.specs.declared.Span.{Span}
use Rattle.model.specs.declared.TechniqueText.{TechniqueText}
use Rattle.model.specs.declared.TechniqueText.TheVariants.{NoText, HammerMark, PalmMute, LetRing}
use Rattle.model.specs.declared.Time.{Time}
use Rattle.model.specs.declared.Track.{Track}
use Rattle.model.specs.Answers.{loss_number}
use Rattle.model.specs.Kinds.{dynamic_of, ottava_word}
use Rattle.curve.specs.Bend.{curve_height}
use Rattle.curve.specs.Level.{forte, chord_of, level_after}
use Rattle.header.specs.declared.Header.{Header}
use Rattle.track.specs.declared.TrackHeader.{TrackHeader}
use Rattle.format.specs.Prog.{has}
use Rattle.note.specs.Points.{BendPoint}
use Rattle.note.specs.Note.{NoteIs}
use Rattle.note.specs.Notes.{string_bit}
use Rattle.beat.specs.Beat.{BeatIs}
use Rattle.score.specs.declared.Before.{Before}
use Rattle.score.specs.declared.Fretboard.{Fretboard}
use Rattle.score.specs.declared.Hammer.{Hammer}
use Rattle.score.specs.declared.KeptCounts.{KeptCounts}
use Rattle.score.specs.declared.OttavaRun.{OttavaRun}
use Rattle.score.specs.declared.Part.{Part}
use Rattle.score.specs.declared.Tally.{Tally}
use Rattle.score.specs.declared.Voice.{Voice}
use Rattle.score.specs.Sounding.{Sounding, no_memory, sounding, remember}
use Rattle.score.specs.Members.{Keyed, in_order}
use Rattle.score.specs.Rows.{RowIs, rows_of, levels}
use Rattle.score.specs.File.{Opening, Adding}
use Rattle.score.specs.Bars.{several, unsupported, other_signs, c_major, key_after, flat_after, goes_on, bar_of}
use Rattle.score.specs.Losses.{report_if, reported, header_losses, track_losses, reading_losses, building_losses}

-- ---- the tables, and what is done to them

pub data Kind : Type 0 where
  bars : Kind
  tracks : Kind
  rows : Kind
  members : Kind
  points : Kind
  texts : Kind
  parts : Kind

-- a text of a kept beat, with its bytes
pub record TextIs : Type 0 where
  pub bar : ℕ
  pub track : ℕ
  pub text : TextRead

abbrev pub Entry : Kind → Type 0
Entry bars = Bar
Entry tracks = Track
Entry rows = Row
Entry members = Member
Entry points = Point
Entry texts = TextIs
Entry parts = Part

-- T k is the table of kind k. `plus` adds to a number of entries or of reports
pub record Operations (T : Kind → Type 0) : Type 0 where
  pub plus : ℕ → ℕ → ℕ
  -- adds an entry, given the number of those that are there
  pub add : (k : Kind) → ℕ → Entry k → T k → T k
  -- in a table of bars: the ending of this bar goes on in the next; its key; it gets this tempo unless it has one
  pub go_on : ℕ → T bars → T bars
  pub key_at : ℕ → T bars → Key
  pub tempo_at : ℕ → Option ℕ → T bars → T bars
  -- in a table of rows: the row of this number becomes a pull-off; its ottava does not end there
  pub pull_off : ℕ → T rows → T rows
  pub carry_on : ℕ → T rows → T rows
  -- in a table of members: a tie starts at the first member of the span that answers the tied one
  pub start_tie : Span → Member → T members → T members
  -- in a table of texts: whether this one stands among the first so many
  pub entered : ℕ → TextIs → T texts → Bool
  -- in a table of parts, what is remembered of a track: by its number, and a voice of it
  pub board_at : ℕ → T parts → Fretboard
  pub voice_at : ℕ → ℕ → T parts → Voice
  pub put_voice : ℕ → ℕ → Voice → T parts → T parts
  pub running_at : ℕ → T parts → ℕ
  pub put_running : ℕ → ℕ → T parts → T parts

-- ---- the entry of a row

-- a span of another table: where it is empty, its first is 0 as well
abbrev pub span_of : (first count : ℕ) → Span
span_of first count = pick (eqb count 0) (record { first = 0; count = 0 }) (record { first = first; count = count })

-- in a row of one member the member has no finger, and the row has its plain finger (docs/RULES.md 1)
abbrev pub plain_finger : List Member → Finger
plain_finger [] = NoFinger
plain_finger (m ∷ []) = m.finger
plain_finger (m ∷ n ∷ ms) = NoFinger

abbrev pub unfingered : Member → Member
unfingered m =
    record { key = m.key; flat = m.flat; position = m.position; ghosted = m.ghosted; ties = m.ties; finger = NoFinger }

abbrev pub fingered : List Member → List Member
fingered [] = []
fingered (m ∷ []) = unfingered m ∷ []
fingered (m ∷ n ∷ ms) = m ∷ n ∷ ms

-- the hammer mark stands in no finished row
abbrev pub marked : TechniqueText → Bool
marked NoText = false
marked HammerMark = true
marked PalmMute = false
marked LetRing = false

abbrev pub text_left : TechniqueText → TechniqueText
text_left t = pick (marked t) NoText t

abbrev pub dynamic_at : Option ℕ → Dynamic
dynamic_at None = NoDynamic
dynamic_at (Some n) = dynamic_of n

unfoldable pub row_entry : RowIs → OttavaMarks → KeptCounts → Row
row_entry r marks kept =
    record {
      place = r.place;
      kind = r.kind;
      rest = r.rest;
      value = r.value;
      members = span_of kept.members (length r.members);
      playing = record {
        text = text_left r.text;
        technique = r.technique;
        curve = span_of kept.points (length r.curve);
        height = curve_height r.curve;
      };
      expression = record { dynamic = dynamic_at r.dynamic; articulations = r.articulations; arpeggio = r.arpeggio; head = r.head };
      ottava = marks;
      chord = r.chord;
      finger = plain_finger r.members;
      beat = r.beat;
    }

-- ---- what a row does to the rows of its voice before it

-- a marked row turns pull-off when the next row of its voice, graces included, is no rest and its first key is lower
abbrev pub lower_first : List Member → ℕ → Bool
lower_first [] key = false
lower_first (m ∷ ms) key = ltb m.key key

abbrev pub pulls : RowIs → ℕ → Bool
pulls r key = not r.rest && lower_first r.members key

abbrev pub first_key : List Member → ℕ
first_key [] = 0
first_key (m ∷ ms) = m.key

abbrev pub hammer_after : ℕ → RowIs → Option Hammer
hammer_after n r = pick (marked r.text) (Some (record { row = n; key = first_key r.members })) None

-- an ottava goes on over rows of one kind; a rest of that kind neither ends, extends nor starts it; a grace row, which has none, ends it
abbrev pub under : RowIs → Bool
under r = not (eqb (ottava_word r.ottava) (ottava_word NoOttava)) && not r.rest

abbrev pub same_kind : RowIs → Option OttavaRun → Bool
same_kind r None = false
same_kind r (Some o) = eqb (ottava_word r.ottava) (ottava_word o.kind)

abbrev pub ottava_marks : RowIs → Option OttavaRun → OttavaMarks
ottava_marks r run = record { start = pick (under r && not (same_kind r run)) r.ottava NoOttava; end = under r }

abbrev pub run_after : ℕ → RowIs → Option OttavaRun → Option OttavaRun
run_after n r run = pick (under r) (Some (record { row = n; kind = r.ottava })) (pick (r.rest && same_kind r run) run None)

-- the members that the next beat's ties may start on: a rest has none, a grace leaves them
abbrev pub last_after : RowKind → Span → Span → Span
last_after Grace own last = last
last_after Beat own last = own

-- ---- a voice and a part, at first

abbrev pub no_voice : Voice
no_voice = record { frets = no_memory; hammer = None; last = record { first = 0; count = 0 }; run = None }

abbrev pub board_of : TrackHeader → Fretboard
board_of t = record { strings = t.strings; capo = t.capo; percussion = t.percussion; tablature = t.tablature }

-- the running dynamic starts at 6
abbrev pub part_of : TrackHeader → Part
part_of t = record { board = board_of t; running = forte; first = no_voice; second = no_voice }

-- the entry of a track
abbrev pub tuning : TrackHeader → ℕ → ℕ
tuning t i = get_or t.strings.tunings i 0

unfoldable pub track_entry : TrackHeader → Track
track_entry t =
    record {
      name = t.name;
      tunings = record {
        strings = t.strings.count;
        first = tuning t 0;
        second = tuning t 1;
        third = tuning t 2;
        fourth = tuning t 3;
        fifth = tuning t 4;
        sixth = tuning t 5;
        seventh = tuning t 6;
      };
      capo = t.capo;
      percussion = t.percussion;
      tablature = t.tablature;
      clef = t.clef;
      channel = t.channel;
      program = t.program;
    }

-- ---- the states

-- while headers are added
pub record Heads (T : Kind → Type 0) : Type 0 where
  pub bars : T bars
  pub before : Before
  pub losses : List ℕ

-- while tracks are added
pub record Staves (T : Kind → Type 0) : Type 0 where
  pub tracks : T tracks
  pub parts : T parts
  pub losses : List ℕ

-- while beats are added
pub record Walk (T : Kind → Type 0) : Type 0 where
  pub bars : T bars
  pub rows : T rows
  pub members : T members
  pub points : T points
  pub texts : T texts
  pub parts : T parts
  pub tally : Tally

-- while the rows of one beat are added
pub record Rowing (T : Kind → Type 0) : Type 0 where
  pub rows : T rows
  pub members : T members
  pub points : T points
  pub kept : KeptCounts
  pub voice : Voice

-- room for curve points: over every note read with a non-empty bend, its points plus 2
abbrev pub bend_room : List BendPoint → ℕ
bend_room [] = 0
bend_room (p ∷ ps) = length ps + 3

abbrev pub bend_rooms : ℕ → ℕ → List NoteIs → ℕ
bend_rooms strings i [] = 0
bend_rooms strings i (n ∷ ns) = pick (has strings (string_bit i)) (bend_room n.bend) 0 + bend_rooms strings (i + 1) ns

abbrev pub empty_bytes : List ℕ → Bool
empty_bytes [] = true
empty_bytes (x ∷ xs) = false

abbrev pub has_text : BeatIs → Bool
has_text b = b.head.kept && not (empty_bytes b.text.bytes)

abbrev pub with_frets : Voice → List (Option ℕ) → Voice
with_frets v frets = record { frets = frets; hammer = v.hammer; last = v.last; run = v.run }

-- ---- adding

module _ {T : Kind → Type 0} (the : Operations T) where
  -- entries one after another, from number n on
  abbrev pub add_all : (k : Kind) → ℕ → List (Entry k) → T k → T k
  add_all k n [] t = t
  add_all k n (e ∷ es) t = add_all k (n + 1) es (the.add k n e t)

  -- each report adds one
  abbrev pub report : List Loss → List ℕ → List ℕ
  report [] counts = counts
  report (l ∷ ls) counts = report ls (set counts (loss_number l) (the.plus (get_or counts (loss_number l) 0) 1))

  -- ---- a header
  unfoldable pub add_header : Opening → ℕ → Time → Header → Heads T → Heads T
  add_header g bar time h w =
      record {
        bars = the.add bars bar (bar_of g.directions bar time h w.before) (pick (goes_on w.before h) (the.go_on (bar - 1) w.bars) w.bars);
        before = record { key = key_after w.before.key h.key; ending = h.ending };
        losses = report (header_losses h ++ report_if (several g.directions bar) UnsupportedDirection) w.losses;
      }

  -- ---- a track
  unfoldable pub add_track : ℕ → TrackHeader → Staves T → Staves T
  add_track number t w =
      record {
        tracks = the.add tracks number (track_entry t) w.tracks;
        parts = the.add parts number (part_of t) w.parts;
        losses = report (track_losses t) w.losses;
      }

  -- ---- a row
  abbrev pub turn_hammer : Option Hammer → RowIs → T rows → T rows
  turn_hammer None r t = t
  turn_hammer (Some w) r t = pick (pulls r w.key) (the.pull_off w.row t) t

  abbrev pub turn_run : Option OttavaRun → RowIs → T rows → T rows
  turn_run None r t = t
  turn_run (Some o) r t = pick (under r && same_kind r (Some (record { row = o.row; kind = o.kind }))) (the.carry_on o.row t) t

  -- a tie starts on the previous kept beat of the same voice if that is no rest
  abbrev pub start_ties : Span → List Member → T members → T members
  start_ties last [] t = t
  start_ties last (m ∷ ms) t = start_ties last ms (pick m.ties.end (the.start_tie last m t) t)

  unfoldable pub keep_row : RowIs → Rowing T → Rowing T
  keep_row r w =
      record {
        rows = the.add rows w.kept.rows (row_entry r (ottava_marks r w.voice.run) w.kept) (turn_run w.voice.run r (turn_hammer w.voice.hammer r w.rows));
        members = add_all members w.kept.members (fingered r.members) (start_ties w.voice.last r.members w.members);
        points = add_all points w.kept.points r.curve w.points;
        kept = record {
          rows = the.plus w.kept.rows 1;
          members = the.plus w.kept.members (length r.members);
          points = the.plus w.kept.points (length r.curve);
        };
        voice = record {
          frets = w.voice.frets;
          hammer = hammer_after w.kept.rows r;
          last = last_after r.kind (span_of w.kept.members (length r.members)) w.voice.last;
          run = run_after w.kept.rows r w.voice.run;
        };
      }

  abbrev pub keep_rows : List RowIs → Rowing T → Rowing T
  keep_rows [] w = w
  keep_rows (r ∷ rs) w = keep_rows rs (keep_row r w)

  -- ---- a text: once for each bar of its track, both voices together
  abbrev pub keep_text : ℕ → TextIs → T texts → T texts
  keep_text n t ts = pick (the.entered n t ts) ts (the.add texts n t ts)

  abbrev pub texts_after : ℕ → TextIs → T texts → ℕ
  texts_after n t ts = pick (the.entered n t ts) n (the.plus n 1)

  -- ---- a beat
  unfoldable pub enter_bar : ℕ → Walk T → Walk T
  enter_bar bar w =
      record {
        bars = w.bars;
        rows = w.rows;
        members = w.members;
        points = w.points;
        texts = w.texts;
        parts = w.parts;
        tally = record {
          kept = w.tally.kept;
          texts = w.tally.texts;
          text_room = w.tally.text_room;
          point_room = w.tally.point_room;
          flat = flat_after w.tally.flat (the.key_at bar w.bars);
          losses = w.tally.losses;
        };
      }

  -- a beat that is not kept gives no row, but its frets are remembered
  abbrev pub keep_beat : RowPlace → Fretboard → Bool → ℕ → BeatIs → List Keyed → Rowing T → Rowing T
  keep_beat place board flat running b xs w = pick b.head.kept (keep_rows (rows_of place board flat running b xs) w) w

  -- rests take no part in the running dynamic: a chord of no members keeps it
  abbrev pub running_after : ℕ → BeatIs → List Keyed → ℕ
  running_after running b xs = pick b.head.kept (level_after running (chord_of (levels xs))).running running

  abbrev pub beat_losses : BeatIs → List Keyed → List Loss
  beat_losses b xs = reading_losses b ++ pick b.head.kept (building_losses b xs) []

  unfoldable pub add_beat : ℕ → ℕ → ℕ → BeatIs → Walk T → Walk T
  add_beat bar track voice b w =
      let board : Fretboard = the.board_at track w.parts in
      let memory : Voice = the.voice_at track voice w.parts in
      let running : ℕ = the.running_at track w.parts in
      let heard : List Sounding = sounding board memory.frets b in
      let xs : List Keyed = in_order board heard in
      let words : TextIs = record { bar = bar; track = track; text = b.text } in
      let read : Rowing T = record { rows = w.rows; members = w.members; points = w.points; kept = w.tally.kept; voice = with_frets memory (remember memory.frets heard) } in
      let kept : Rowing T = keep_beat (record { bar = bar; track = track; voice = voice }) board w.tally.flat running b xs read in
      record {
        bars = the.tempo_at bar b.mix.tempo w.bars;
        rows = kept.rows;
        members = kept.members;
        points = kept.points;
        texts = pick (has_text b) (keep_text w.tally.texts words w.texts) w.texts;
        parts = the.put_running track (running_after running b xs) (the.put_voice track voice kept.voice w.parts);
        tally = record {
          kept = kept.kept;
          texts = pick (has_text b) (texts_after w.tally.texts words w.texts) w.tally.texts;
          text_room = pick (has_text b) (the.plus w.tally.text_room 1) w.tally.text_room;
          point_room = the.plus w.tally.point_room (bend_rooms b.strings 0 b.notes);
          flat = w.tally.flat;
          losses = report (beat_losses b xs) w.tally.losses;
        };
      }

  -- ---- from the tables as they are lent
  module _ (lent : (k : Kind) → T k) where
    unfoldable pub no_bars : Opening → Heads T
    no_bars g =
        record {
          bars = lent bars;
          before = record { key = c_major; ending = 0 };
          losses = report (report_if g.swing TripletFeel ++ reported (unsupported g.directions other_signs) UnsupportedDirection) (replicate 17 0);
        }

    unfoldable pub no_tracks : Heads T → Staves T
    no_tracks h = record { tracks = lent tracks; parts = lent parts; losses = h.losses }

    unfoldable pub no_beats : Heads T → Staves T → Walk T
    no_beats h t =
        record {
          bars = h.bars;
          rows = lent rows;
          members = lent members;
          points = lent points;
          texts = lent texts;
          parts = t.parts;
          tally = record {
            kept = record { rows = 0; members = 0; points = 0 };
            texts = 0;
            text_room = 0;
            point_room = 0;
            flat = false;
            losses = t.losses;
          };
        }

    abbrev pub keeping : Adding (Heads T) (Staves T) (Walk T)
    keeping =
        record {
          headers = no_bars;
          add_header = add_header;
          tracks = no_tracks;
          add_track = add_track;
          bars = no_beats;
          enter_bar = enter_bar;
          add_beat = add_beat;
        }
