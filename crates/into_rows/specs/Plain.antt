-- The row of a beat of plain notes.
use Rattle.std.specs.Prelude.{Bool, false, List, [], map, Option, ℕ}
use Rattle.model.specs.declared.Arpeggio.TheVariants.{NoArpeggio}
use Rattle.model.specs.declared.Ottava.TheVariants.{NoOttava}
use Rattle.model.specs.declared.OttavaMarks.{OttavaMarks}
use Rattle.model.specs.declared.RowPlace.{RowPlace}
use Rattle.model.specs.declared.RowKind.TheVariants as K
use Rattle.model.specs.declared.Technique.TheVariants.{NoTechnique}
use Rattle.model.specs.declared.TechniqueText.TheVariants.{NoText}
use Rattle.model.specs.Marks.{packed}
use Rattle.beat.specs.Beat.{BeatIs}
use Rattle.score.specs.declared.Fretboard.{Fretboard}
use Rattle.score.specs.Losses.{is_rest}
use Rattle.score.specs.Members.{Keyed, member_of}
use Rattle.score.specs.Rows.{RowIs, value_of, row_head}

-- no ottava starts or ends at it
abbrev pub no_marks : OttavaMarks
no_marks = record { start = NoOttava; end = false }

-- `beat_row` of Rows where neither the beat nor a note has effects, and the mark is known
unfoldable pub plain_row : RowPlace → Fretboard → Bool → Option ℕ → BeatIs → List Keyed → RowIs
plain_row place board flat mark b xs =
    record {
      place = place;
      kind = K.Beat;
      rest = is_rest xs;
      value = value_of b;
      members = map (member_of board flat) xs;
      text = NoText;
      technique = NoTechnique;
      curve = [];
      dynamic = mark;
      articulations = packed [];
      arpeggio = NoArpeggio;
      head = row_head xs;
      ottava = NoOttava;
      chord = record { start = 0; end = 0 };
      beat = b.range;
    }
