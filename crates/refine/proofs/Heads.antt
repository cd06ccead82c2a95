-- Headers, tracks and the entering of a bar: what is done to the words shows what is done to the lists.
use Prim.Native.Nat.{ℕ, zero, suc, ◌+◌, ◌*◌, ◌-◌, ◌≤◌, ◌<◌}
use mathlib.Core.Path.{◌≡◌, refl, sym, ◌∙◌}
use mathlib.Core.Bool.{Bool, true, false, not, ◌&&◌, true≢false}
use mathlib.Core.List.{List, [], ◌∷◌, ◌++◌}
use native.Mathlib.Omega.{arith}
use borrow.Author.Tests.{eqb-true, ne_eqb}
use lib.Dec.{eqb, ltb}
use lib.ListN.{length, get_or, replicate, length-append}
use Rattle.format.specs.declared.Range.{Range}
use Rattle.format.specs.Text.{pick}
use Rattle.format.specs.Verdict.{LIMIT}
use Rattle.format.specs.Yields.{Inside}
use Rattle.tables.proofs.Laws.{over_nil}
use Rattle.model.specs.declared.Bar.{Bar}
use Rattle.model.specs.declared.Loss.{Loss}
use Rattle.model.specs.declared.Loss.TheVariants.{DrumKit, RepeatCount, TripletFeel, UnsupportedDirection}
use Rattle.model.specs.declared.Time.{Time}
use Rattle.model.proofs.Fits.{EndingFits, PassesFit}
use Rattle.entries.proofs.Fits.{RangeFits, BarFits}
use Rattle.header.specs.declared.Header.{Header}
use Rattle.track.specs.declared.TrackHeader.{TrackHeader}
use Rattle.score.specs.declared.Before.{Before}
use Rattle.score.specs.declared.Part.{Part}
use Rattle.score.specs.declared.Voice.{Voice}
use Rattle.score.specs.Bars.{several, one_if, unsupported, other_signs, goes_on, ending_entry, passes_entry, bar_of, no_bar}
use Rattle.score.proofs.Facts.{HeaderFacts, TrackFacts}
use Rattle.score.specs.File.{Opening}
use Rattle.score.specs.Losses.{report_if, reported, header_losses, track_losses}
use Rattle.score.specs.Page as Page
use Rattle.score.specs.Page.{Heads, Staves, Walk, no_voice, part_of, track_entry, report, add_header, add_track}
use Rattle.score.specs.Page.{enter_bar, no_bars, no_tracks, no_beats}
use Rattle.score.specs.Score.{Lists, lists, none}
use Rattle.words.specs.Lent.{Lent, lent}
use Rattle.words.specs.Words.{Words, words}
use Rattle.refine.proofs.All.{All, all_get, all_more, all_replicate, all_weaker}
use Rattle.refine.proofs.Alike.{FreshVoice, FreshPart, VoiceWithin, PartWithin, HeadsShown, StavesShown}
use Rattle.refine.proofs.Alike.{Room, TablesShown, WalkShown}
use Rattle.refine.proofs.Counts.{UpTo, report_is, report_up_to}
use Rattle.refine.proofs.Keeps.{length-go_on, go_on_fits}
use Rattle.refine.proofs.Ops.{go_on_shows, key_shows}
use Rattle.refine.proofs.Parts.{Byte, BoardFits, PartFits, part_of_fits}
use Rattle.refine.proofs.Shown.{shown, pick_both, add_shows}

-- ---- reports: few at a time

report_if_length : (b : Bool) (l : Loss) → length (report_if b l) ≤ 1
report_if_length true l = omega arith
report_if_length false l = omega arith

reported_length : (n : ℕ) (l : Loss) → length (reported n l) ≡ n
reported_length zero l = refl
reported_length (suc n) l = omega (arith, reported_length n l)

one_if_lem : (b : Bool) → one_if b ≤ 1
one_if_lem true = omega arith
one_if_lem false = omega arith

unsupported_length : (numbers signs : List ℕ) → unsupported numbers signs ≤ length signs
unsupported_length numbers [] = omega arith
unsupported_length numbers (e ∷ signs) =
    omega (arith, one_if_lem (ltb 0 (get_or numbers e 0)), unsupported_length numbers signs)

-- the swing, and one for each of nine signs
abbrev song_losses : Opening → List Loss
song_losses g =
    report_if g.swing TripletFeel ++ reported (unsupported g.directions other_signs) UnsupportedDirection

song_losses_length : (g : Opening) → length (song_losses g) ≤ 10
song_losses_length g =
    rw length-append (omega (
      arith,
      report_if_length g.swing TripletFeel,
      reported_length (unsupported g.directions other_signs) UnsupportedDirection,
      unsupported_length g.directions other_signs,
    ))

abbrev bar_losses : Opening → ℕ → Header → List Loss
bar_losses g b h = header_losses h ++ report_if (several g.directions b) UnsupportedDirection

bar_losses_length : (g : Opening) (b : ℕ) (h : Header) → length (bar_losses g b h) ≤ 3
unfolding header_losses
bar_losses_length g b h =
    simp length-append (omega (
      arith,
      report_if_length h.repeat_lost RepeatCount,
      report_if_length h.swing_lost TripletFeel,
      report_if_length (several g.directions b) UnsupportedDirection,
    ))

track_losses_length : (u : TrackHeader) → length (track_losses u) ≤ 1
unfolding track_losses
track_losses_length u = report_if_length u.percussion DrumKit

-- the reports so far are at most 64 for each byte, and 64
abbrev Few : ℕ → List ℕ → Type 0
Few at counts = All (UpTo (64 * at + 64)) counts

few_later : (counts : List ℕ) (at n : ℕ) → at ≤ n → Few at counts → Few n counts
few_later counts at n h f = all_weaker (UpTo (64 * at + 64)) (UpTo (64 * n + 64)) (λ a k. omega arith) counts f

module _ (ls : List Loss) (l : length ls ≤ 64) (counts : List ℕ) where
  first_few : (at : ℕ) → All (UpTo 0) counts → Few at (report lists ls counts)
  first_few at f =
      all_weaker (UpTo (0 + length ls)) (UpTo (64 * at + 64)) (λ a k. omega arith) (report lists ls counts)
      (report_up_to ls counts 0 f)

  more_few : (at n : ℕ) → at + 1 ≤ n → Few at counts → Few n (report lists ls counts)
  more_few at n h f =
      all_weaker (UpTo (64 * at + 64 + length ls)) (UpTo (64 * n + 64)) (λ a k. omega arith) (report lists ls counts)
      (report_up_to ls counts (64 * at + 64) f)

  -- a word has room for all the reports of a file
  same_report : (s : List ℕ) (at : ℕ) → length s ≤ LIMIT → at ≤ length s → Few at counts
      → report (words s) ls counts ≡ report lists ls counts
  same_report s at small h f = report_is s ls counts (64 * at + 64) f (omega arith)

-- ---- headers

ending_fits : (n : ℕ) → n < 256 → EndingFits (ending_entry n)
ending_fits zero h = tt
ending_fits (suc n) h = rw (ne_eqb (suc n) 0 (omega arith)) (omega arith)

passes_fit : (n : ℕ) → n < 256 → PassesFit (passes_entry n)
passes_fit zero h = tt
passes_fit (suc n) h = rw (ne_eqb (suc n) 0 (omega arith)) (omega arith)

pub range_fits : (s : List ℕ) (r : Range) → length s ≤ LIMIT → Inside (length s) r → RangeFits r
range_fits s r small f = record { start = omega (arith, f.sorted, f.ends); end = omega (arith, f.ends) }

pub bar_fits : (s ds : List ℕ) (b at n : ℕ) (time : Time) (h : Header) (before : Before) → length s ≤ LIMIT
    → HeaderFacts s at h n → BarFits (bar_of ds b time h before)
unfolding bar_of
bar_fits s ds b at n time h before small f =
    record {
      numerator = f.time.0;
      denominator = f.time.1;
      key = f.key;
      ending = ending_fits h.ending f.ending;
      passes = passes_fit h.passes f.passes;
      marker = range_fits s h.marker small f.marker;
      tempo = tt;
    }

-- an ending goes on from an ending that is there
goes_on_from : (b e n : ℕ) → (b ≡ 0 → e ≡ 0) → (not (eqb n 0) && eqb e n) ≡ true → b - 1 < b
goes_on_from (suc b) e n h k = omega arith
goes_on_from zero e zero h k = absurd (true≢false (sym k))
goes_on_from zero e (suc n) h k =
    let q : e ≡ suc n = eqb-true e (suc n) (rw (ne_eqb (suc n) 0 (omega arith)) at k) in
    absurd (omega (arith, h refl))

module _ (s : List ℕ) (small : length s ≤ LIMIT) (t : Lent) where
  pub headers_start : (g : Opening) (at : ℕ) → HeadsShown s t 0 (no_bars lists none g) (no_bars (words s) (lent t) g) at
  unfolding no_bars
  headers_start g at =
      let none_yet : All (UpTo 0) (replicate 17 0) = all_replicate (UpTo 0) 17 0 (omega arith) in
      let l : length (song_losses g) ≤ 64 = omega (arith, song_losses_length g) in
      record {
        number = refl;
        bars = sym (over_nil t.bars);
        before = refl;
        first = λ _. refl;
        losses = report_is s (song_losses g) (replicate 17 0) 0 none_yet (omega arith);
        few = first_few (song_losses g) l (replicate 17 0) at none_yet;
        fits = tt;
      }

  module _ (g : Opening) (b : ℕ) (time : Time) (h : Header) (x : Heads Lists) (y : Heads Words) (at n : ℕ)
      (f : HeaderFacts s at h n) (r : HeadsShown s t b x y at) where
    abbrev go : Bool
    go = goes_on x.before h

    abbrev gone : List Bar
    gone = pick go (lists.go_on (b - 1) x.bars) x.bars

    abbrev e : Bar
    e = bar_of g.directions b time h x.before

    gone_number : length gone ≡ b
    gone_number =
        pick_both (λ (l : List Bar). length l ≡ b) go (lists.go_on (b - 1) x.bars) x.bars
        (length-go_on (b - 1) x.bars ∙ r.number) r.number

    gone_fits : All BarFits gone
    gone_fits =
        pick_both (All BarFits) go (lists.go_on (b - 1) x.bars) x.bars
        (go_on_fits (b - 1) x.bars r.fits) r.fits

    gone_shows : (c : Bool) → go ≡ c → let w : List Bar → List ℕ = shown Page.bars t.bars in
        pick c ((words s).go_on (b - 1) (w x.bars)) (w x.bars)
        ≡ w (pick c (lists.go_on (b - 1) x.bars) x.bars)
    gone_shows true k =
        go_on_shows s t.bars (b - 1) x.bars
        (omega (arith, r.number, goes_on_from b x.before.ending h.ending r.first k))
    gone_shows false k = refl

    pub header_shown : HeadsShown s t (b + 1) (add_header lists g b time h x) (add_header (words s) g b time h y) n
    unfolding add_header
    header_shown =
        let l : length (bar_losses g b h) ≤ 64 = omega (arith, bar_losses_length g b h) in
        let inside : at + 1 ≤ length s = omega (arith, f.starts, f.ends) in
        record {
          number = length-append gone (e ∷ []) ∙ rw gone_number;
          bars =
              rw (r.bars, r.before, gone_shows go refl)
              (add_shows s t.bars Page.bars b e gone tt gone_number);
          before = rw r.before;
          first = λ z. absurd (omega arith);
          losses = rw r.losses (same_report (bar_losses g b h) l x.losses s at small (omega arith) r.few);
          few = more_few (bar_losses g b h) l x.losses at n f.starts r.few;
          fits = all_more BarFits gone e gone_fits (bar_fits s g.directions b at n time h x.before small f);
        }

-- ---- tracks

all_bytes : (ts : List ℕ) → ((i : ℕ) → get_or ts i 0 ≤ 127) → All Byte ts
all_bytes [] f = tt
all_bytes (x ∷ ts) f = (omega (arith, f 0), all_bytes ts (λ i. f (suc i)))

pub board_fits : (s : List ℕ) (at n : ℕ) (u : TrackHeader) → TrackFacts s at u n → BoardFits (part_of u).board
board_fits s at n u f =
    record {
      count = omega (arith, f.strings);
      strings = f.tunings.seven;
      tunings = all_bytes u.strings.tunings f.tunings.each;
      capo = omega (arith, f.capo);
    }

fresh_voice : FreshVoice no_voice
fresh_voice = record { hammer = refl; last = refl; run = refl }

fresh_part : (u : TrackHeader) → FreshPart (part_of u)
fresh_part u = record { first = fresh_voice; second = fresh_voice }

module _ (s : List ℕ) (t : Lent) where
  pub tracks_start : (b : ℕ) (x : Heads Lists) (y : Heads Words) (at : ℕ) → HeadsShown s t b x y at
      → StavesShown s t 0 (no_tracks lists none x) (no_tracks (words s) (lent t) y) at
  unfolding no_tracks
  tracks_start b x y at r =
      record {
        tracks_number = refl;
        parts_number = refl;
        tracks = sym (over_nil t.tracks);
        parts = sym (over_nil t.parts);
        part_fits = tt;
        fresh = tt;
        losses = r.losses;
        few = r.few;
      }

module _ (s : List ℕ) (small : length s ≤ LIMIT) (t : Lent) (k : ℕ) (u : TrackHeader) (x : Staves Lists) (y : Staves Words)
    (at n : ℕ) (f : TrackFacts s at u n) (r : StavesShown s t k x y at) where
  pub track_shown : StavesShown s t (k + 1) (add_track lists k u x) (add_track (words s) k u y) n
  unfolding add_track
  track_shown =
      let l : length (track_losses u) ≤ 64 = omega (arith, track_losses_length u) in
      let inside : at + 1 ≤ length s = omega (arith, f.starts, f.ends) in
      record {
        tracks_number = length-append x.tracks (track_entry u ∷ []) ∙ rw r.tracks_number;
        parts_number = length-append x.parts (part_of u ∷ []) ∙ rw r.parts_number;
        tracks =
            rw r.tracks
            (add_shows s t.tracks Page.tracks k (track_entry u) x.tracks tt r.tracks_number);
        parts =
            rw r.parts
            (add_shows s t.parts Page.parts k (part_of u) x.parts r.part_fits r.parts_number);
        part_fits = all_more PartFits x.parts (part_of u) r.part_fits (part_of_fits u (board_fits s at n u f));
        fresh = all_more FreshPart x.parts (part_of u) r.fresh (fresh_part u);
        losses = rw r.losses (same_report (track_losses u) l x.losses s at small (omega arith) r.few);
        few = more_few (track_losses u) l x.losses at n f.starts r.few;
      }

-- ---- bars, before their beats

fresh_voice_within : (v : Voice) → FreshVoice v → VoiceWithin 0 0 v
fresh_voice_within v f =
    record { hammer = rw f.hammer tt; run = rw f.run tt; last = rw f.last (omega arith) }

fresh_within : (p : Part) → FreshPart p → PartWithin 0 0 p
fresh_within p f =
    record { first = fresh_voice_within p.first f.first; second = fresh_voice_within p.second f.second }

module _ (s : List ℕ) (t : Lent) (g : Opening) where
  pub bars_start : (h : Heads Lists) (i : Heads Words) (u : Staves Lists) (v : Staves Words) (earlier at : ℕ)
      → HeadsShown s t g.counts.bars h i earlier → StavesShown s t g.counts.tracks u v at
      → WalkShown s t g (no_beats lists none h u) (no_beats (words s) (lent t) i v) at
  unfolding no_beats
  bars_start h i u v earlier at q r =
      record {
        bars_number = q.number;
        parts_number = r.parts_number;
        parts = r.parts;
        part_fits = r.part_fits;
        within = all_weaker FreshPart (PartWithin 0 0) fresh_within u.parts r.fresh;
        kept = refl;
        rows_number = refl;
        members_number = refl;
        points_number = refl;
        texts_number = refl;
        text_room = refl;
        point_room = refl;
        losses = r.losses;
        few = r.few;
        rows_bound = omega arith;
        members_bound = omega arith;
        points_bound = omega arith;
        point_room_bound = omega arith;
        texts_bound = omega arith;
        text_room_bound = omega arith;
        texts_held = tt;
        bars_fit = q.fits;
        tables = λ _. record {
          bars = q.bars;
          rows = sym (over_nil t.rows);
          members = sym (over_nil t.members);
          points = sym (over_nil t.points);
          texts = sym (over_nil t.texts);
          texts_number = refl;
          flat = refl;
        };
      }

  module _ (b : ℕ) (x : Walk Lists) (y : Walk Words) (at : ℕ) (inside : b < g.counts.bars)
      (r : WalkShown s t g x y at) where
    -- the key is loaded right where there is room for the bars
    entered_shown : Room s t (enter_bar lists b x) → TablesShown s t (enter_bar lists b x) (enter_bar (words s) b y)
    unfolding enter_bar
    entered_shown m =
        let n : b < length x.bars = omega (arith, r.bars_number) in
        let f : BarFits (get_or x.bars b no_bar) = all_get BarFits x.bars b no_bar r.bars_fit n in
        let q : TablesShown s t x y = r.tables (record {
          bars = m.bars;
          rows = m.rows;
          members = m.members;
          points = m.points;
          texts = m.texts;
        }) in
        record {
          bars = q.bars;
          rows = q.rows;
          members = q.members;
          points = q.points;
          texts = q.texts;
          texts_number = q.texts_number;
          flat = rw (q.flat, q.bars, key_shows s t.bars b x.bars n m.bars f.key);
        }

    pub enter_shown : WalkShown s t g (enter_bar lists b x) (enter_bar (words s) b y) at
    unfolding enter_bar
    enter_shown =
        record {
          bars_number = r.bars_number;
          parts_number = r.parts_number;
          parts = r.parts;
          part_fits = r.part_fits;
          within = r.within;
          kept = r.kept;
          rows_number = r.rows_number;
          members_number = r.members_number;
          points_number = r.points_number;
          texts_number = r.texts_number;
          text_room = r.text_room;
          point_room = r.point_room;
          losses = r.losses;
          few = r.few;
          rows_bound = r.rows_bound;
          members_bound = r.members_bound;
          points_bound = r.points_bound;
          point_room_bound = r.point_room_bound;
          texts_bound = r.texts_bound;
          text_room_bound = r.text_room_bound;
          texts_held = r.texts_held;
          bars_fit = r.bars_fit;
          tables = entered_shown;
        }

-- ---- reading on changes nothing

module _ (s : List ℕ) (t : Lent) where
  pub staves_later : (k : ℕ) (x : Staves Lists) (y : Staves Words) (at n : ℕ) → at ≤ n
      → StavesShown s t k x y at → StavesShown s t k x y n
  staves_later k x y at n l r =
      record {
        tracks_number = r.tracks_number;
        parts_number = r.parts_number;
        tracks = r.tracks;
        parts = r.parts;
        part_fits = r.part_fits;
        fresh = r.fresh;
        losses = r.losses;
        few = few_later x.losses at n l r.few;
      }
