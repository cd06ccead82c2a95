-- What an operation on a list keeps: how many entries there are, and that they fit their words.
use Rattle.std.specs.Prelude.{None, Option, Some}
use Prim.Native.Nat.{ℕ, zero, suc, ◌+◌, ◌<◌}
use mathlib.Core.Path.{◌≡◌, refl}
use mathlib.Core.Bool.{true, false}
use mathlib.Core.List.{List}
use lib.ListN.{length, get_or, length-append}
use Rattle.tables.specs.Table.{change}
use Rattle.tables.proofs.Laws.{length-change}
use Rattle.model.specs.declared.Bar.{Bar}
use Rattle.model.specs.declared.EndingPlace.{EndingPlace}
use Rattle.model.specs.declared.Member.{Member}
use Rattle.model.specs.declared.Row.{Row}
use Rattle.model.specs.declared.Span.{Span}
use Rattle.model.specs.declared.Technique.TheVariants.{PullOff}
use Rattle.model.proofs.Fits.{TempoFits}
use Rattle.entries.specs.Changed.{with_place, with_tempo, with_technique, with_ottava_end, with_tie_start}
use Rattle.entries.proofs.Fits.{BarFits, RowFits, MemberFits}
use Rattle.score.specs.declared.Part.{Part}
use Rattle.score.specs.declared.Voice.{Voice}
use Rattle.score.specs.Bars.{followed}
use Rattle.score.specs.Page.{Kind, Entry, add_all}
use Rattle.score.specs.Score.{lists, first_tempo, answers, no_member, start_first, with_voice, with_running}
use Rattle.refine.proofs.All.{All, all_change}
use Rattle.refine.proofs.Parts.{VoiceFits, PartFits, with_voice_fits, with_running_fits}
use Rattle.refine.proofs.Shown.{pick_both, add_all_is}

pub length-add_all : (k : Kind) (n : ℕ) (qs es : List (Entry k))
    → length (add_all lists k n qs es) ≡ length es + length qs
length-add_all k n qs es = rw (add_all_is k n qs es) (length-append es qs)

-- ---- bars

abbrev gone_on : Bar → Bar
gone_on b = with_place (followed b.place) b

abbrev in_tempo : Option ℕ → Bar → Bar
in_tempo x b = with_tempo (first_tempo b.tempo x) b

with_place_fits : (p : EndingPlace) (b : Bar) → BarFits b → BarFits (with_place p b)
with_place_fits p b f =
    record {
      numerator = f.numerator;
      denominator = f.denominator;
      key = f.key;
      ending = f.ending;
      passes = f.passes;
      marker = f.marker;
      tempo = f.tempo;
    }

with_tempo_fits : (x : Option ℕ) (b : Bar) → TempoFits x → BarFits b → BarFits (with_tempo x b)
with_tempo_fits x b q f =
    record {
      numerator = f.numerator;
      denominator = f.denominator;
      key = f.key;
      ending = f.ending;
      passes = f.passes;
      marker = f.marker;
      tempo = q;
    }

first_tempo_fits : (old new : Option ℕ) → TempoFits old → TempoFits new → TempoFits (first_tempo old new)
first_tempo_fits None new f q = q
first_tempo_fits (Some n) new f q = f

module _ (i : ℕ) (bs : List Bar) where
  pub length-go_on : length (lists.go_on i bs) ≡ length bs
  length-go_on = length-change gone_on bs i

  pub go_on_fits : All BarFits bs → All BarFits (lists.go_on i bs)
  go_on_fits f = all_change BarFits gone_on (λ b. with_place_fits (followed b.place) b) bs i f

  pub length-tempo : (x : Option ℕ) → length (lists.tempo_at i x bs) ≡ length bs
  length-tempo x = length-change (in_tempo x) bs i

  pub tempo_fits : (x : Option ℕ) → TempoFits x → All BarFits bs → All BarFits (lists.tempo_at i x bs)
  tempo_fits x q f =
      all_change BarFits (in_tempo x)
      (λ b g. with_tempo_fits (first_tempo b.tempo x) b (first_tempo_fits b.tempo x g.tempo q) g) bs i f

-- ---- rows

module _ (i : ℕ) (rs : List Row) where
  pub length-pull_off : length (lists.pull_off i rs) ≡ length rs
  length-pull_off = length-change (with_technique PullOff) rs i

  pub pull_off_fits : All RowFits rs → All RowFits (lists.pull_off i rs)
  pull_off_fits f =
      all_change RowFits (with_technique PullOff)
      (λ r g. record { tuplet = g.tuplet; height = g.height; count = g.count; chord = g.chord; beat = g.beat }) rs i f

  pub length-carry_on : length (lists.carry_on i rs) ≡ length rs
  length-carry_on = length-change (with_ottava_end false) rs i

  pub carry_on_fits : All RowFits rs → All RowFits (lists.carry_on i rs)
  carry_on_fits f =
      all_change RowFits (with_ottava_end false)
      (λ r g. record { tuplet = g.tuplet; height = g.height; count = g.count; chord = g.chord; beat = g.beat }) rs i f

-- ---- members

module _ (tied : Member) (ms : List Member) where
  abbrev here : ℕ → List Member
  here i = change (with_tie_start true) ms i

  length-start : (i count : ℕ) → length (start_first i count tied ms) ≡ length ms
  length-start i zero = refl
  length-start i (suc n) =
      pick_both (λ l. length l ≡ length ms) (answers tied (get_or ms i no_member)) (here i) (start_first (i + 1) n tied ms)
      (length-change (with_tie_start true) ms i) (length-start (i + 1) n)

  start_fits : (i count : ℕ) → All MemberFits ms → All MemberFits (start_first i count tied ms)
  start_fits i zero f = f
  start_fits i (suc n) f =
      pick_both (All MemberFits) (answers tied (get_or ms i no_member)) (here i) (start_first (i + 1) n tied ms)
      (all_change MemberFits (with_tie_start true) (λ m g. record { key = g.key; position = g.position }) ms i f)
      (start_fits (i + 1) n f)

  pub length-start_tie : (span : Span) → length (lists.start_tie span tied ms) ≡ length ms
  length-start_tie span = length-start span.first span.count

  pub start_tie_fits : (span : Span) → All MemberFits ms → All MemberFits (lists.start_tie span tied ms)
  start_tie_fits span f = start_fits span.first span.count f

-- ---- parts

module _ (i : ℕ) (ps : List Part) where
  pub length-put_voice : (n : ℕ) (v : Voice) → length (lists.put_voice i n v ps) ≡ length ps
  length-put_voice n v = length-change (with_voice n v) ps i

  pub put_voice_fits : (n : ℕ) (v : Voice) → VoiceFits v → All PartFits ps → All PartFits (lists.put_voice i n v ps)
  put_voice_fits n v q f = all_change PartFits (with_voice n v) (λ p g. with_voice_fits n v p q g) ps i f

  pub length-put_running : (n : ℕ) → length (lists.put_running i n ps) ≡ length ps
  length-put_running n = length-change (with_running n) ps i

  pub put_running_fits : (n : ℕ) → n < 256 → All PartFits ps → All PartFits (lists.put_running i n ps)
  put_running_fits n q f = all_change PartFits (with_running n) (λ p g. with_running_fits n p q g) ps i f
