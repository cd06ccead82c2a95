-- Parts of the entry of a row, and of what is remembered after it.
use Rattle.std.specs.Prelude.{ℕ, ◌≡◌, List, [], length}
use Rattle.model.specs.declared.Expression.{Expression}
use Rattle.model.specs.declared.Member.{Member}
use Rattle.model.specs.declared.Playing.{Playing}
use Rattle.model.specs.declared.Point.{Point}
use Rattle.curve.specs.Bend.{curve_height}
use Rattle.score.specs.declared.KeptCounts.{KeptCounts}
use Rattle.score.specs.declared.Voice.{Voice}
use Rattle.score.specs.Page.{Rowing, span_of, text_left, dynamic_at, plain_finger, first_key, hammer_after, last_after, run_after}
use Rattle.score.specs.Rows.{RowIs}
use Rattle.draft.specs.declared.Draft.{Draft}
use Rattle.draft.specs.Meant.{drawn}
use Rattle.into_rows.specs.declared.members.Company.{Company}
use Rattle.into_rows.specs.declared.points.Bent.{Bent}
use Rattle.words.specs.Words.{Words, word_plus}
use Rattle.words.specs.Meant.{rowing_of}
use Rattle.words.specs.Voices.{voice_in}
use Rattle.words.specs.declared.voice.VoiceWords.{VoiceWords}

-- the tables that a row is entered in, with what is kept and the words of its voice
abbrev pub rowing_in : (rows members points : List ℕ) → KeptCounts → VoiceWords → Rowing Words
rowing_in rows members points kept voice = rowing_of rows members points kept (voice_in voice)

-- what a row holds of its members
pub record Sums (members : List Member) (x : Company) : Type 0 where
  pub count : length members ≡ x.count
  pub key : first_key members ≡ x.key
  pub finger : plain_finger members ≡ x.finger

-- and of its curve
pub record Bends (curve : List Point) (x : Bent) : Type 0 where
  pub count : length curve ≡ x.count
  pub height : curve_height curve ≡ x.height

-- what a row does to the rows before it depends on neither, but for its first key
abbrev pub undrawn : Draft → RowIs
undrawn d = drawn [] [] d

-- what a row holds of its curve
abbrev pub bent_of : List Point → Bent
bent_of curve = record { count = length curve; height = curve_height curve }

abbrev pub playing_of : RowIs → Bent → (first : ℕ) → Playing
playing_of r bent first =
    record {
      text = text_left r.text;
      technique = r.technique;
      curve = span_of first bent.count;
      height = bent.height;
    }

abbrev pub expression_of : RowIs → Expression
expression_of r =
    record {
      dynamic = dynamic_at r.dynamic;
      articulations = r.articulations;
      arpeggio = r.arpeggio;
      head = r.head;
    }

abbrev pub kept_after : Company → Bent → KeptCounts → KeptCounts
kept_after company bent kept =
    record {
      rows = word_plus kept.rows 1;
      members = word_plus kept.members company.count;
      points = word_plus kept.points bent.count;
    }

abbrev pub voice_after : RowIs → KeptCounts → Voice → Voice
voice_after r kept voice =
    record {
      frets = voice.frets;
      hammer = hammer_after kept.rows r;
      last = last_after r.kind (span_of kept.members (length r.members)) voice.last;
      run = run_after kept.rows r voice.run;
    }
