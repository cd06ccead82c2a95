-- The walk once the rows of a beat are kept: parts, texts, rooms and losses, and the tables where there is room.
use Prim.Native.Nat.{ℕ, zero, suc, ◌+◌, ◌*◌, ◌≤◌, ◌<◌}
use mathlib.Core.Path.{◌≡◌, refl, ap, sym, ◌∙◌}
use mathlib.Core.Bool.{Bool, true, false}
use mathlib.Core.List.{List, [], ◌∷◌, ◌++◌}
use native.Mathlib.Omega.{arith}
use lib.ListN.{length, get_or, length-append}
use Rattle.format.specs.Verdict.{LIMIT}
use Rattle.format.specs.Text.{pick}
use Rattle.format.specs.Yields.{OfFile}
use Rattle.model.specs.declared.Loss.{Loss}
use Rattle.entries.proofs.Fits.{BarFits}
use Rattle.entries.specs.Words.{member_stride, text_stride}
use Rattle.beat.specs.Beat.{BeatIs}
use Rattle.score.specs.declared.Part.{Part}
use Rattle.score.specs.declared.Voice.{Voice}
use Rattle.score.specs.Bars.{no_bar}
use Rattle.score.specs.File.{Opening}
use Rattle.score.specs.Page.{Kind, texts, parts, TextIs, Operations, Walk, Rowing, bend_rooms}
use Rattle.score.specs.Page.{has_text, report, keep_text, texts_after}
use Rattle.score.specs.Score.{Lists, lists, with_voice, with_running}
use Rattle.score.proofs.Facts.{BeatFacts}
use Rattle.words.specs.Lent.{Lent}
use Rattle.words.specs.Words.{LARGEST, Words, words}
use Rattle.refine.proofs.All.{All, all_get, all_more, all_change, all_weaker}
use Rattle.refine.proofs.Alike.{VoiceWithin, PartWithin, Room, TablesShown, WalkShown}
use Rattle.refine.proofs.Counts.{plus_is, UpTo, report_up_to, report_is}
use Rattle.refine.proofs.Keeping.{RowingFits, SameKept, on_words, voice_later}
use Rattle.refine.proofs.Keeps.{length-tempo, tempo_fits, length-put_voice, put_voice_fits, length-put_running}
use Rattle.refine.proofs.Keeps.{put_running_fits}
use Rattle.refine.proofs.Ops.{TextHeld, tempo_shows, entered_shows, put_voice_shows, put_running_shows}
use Rattle.refine.proofs.Parts.{VoiceFits, PartFits}
use Rattle.refine.proofs.Shown.{shown, pick_shows, pick_both, add_shows}

-- ---- what becomes of the walk

abbrev pub text_for : (bar track : ℕ) → BeatIs → TextIs
text_for bar track b = record { bar = bar; track = track; text = b.text }

module _ {T : Kind → Type 0} (the : Operations T) where
  unfoldable pub after_rows : (bar track voice : ℕ) → BeatIs → Rowing T → ℕ → List Loss → Walk T → Walk T
  after_rows bar track voice b kept running ls w =
      record {
        bars = the.tempo_at bar b.mix.tempo w.bars;
        rows = kept.rows;
        members = kept.members;
        points = kept.points;
        texts = pick (has_text b) (keep_text the w.tally.texts (text_for bar track b) w.texts) w.texts;
        parts = the.put_running track running (the.put_voice track voice kept.voice w.parts);
        tally = record {
          kept = kept.kept;
          texts =
              pick (has_text b) (texts_after the w.tally.texts (text_for bar track b) w.texts) w.tally.texts;
          text_room = pick (has_text b) (the.plus w.tally.text_room 1) w.tally.text_room;
          point_room = the.plus w.tally.point_room (bend_rooms b.strings 0 b.notes);
          flat = w.tally.flat;
          losses = report the ls w.tally.losses;
        };
      }

-- ---- parts

voiced_within : (i m n : ℕ) (v : Voice) (p : Part) → VoiceWithin i m v → PartWithin i m p
    → PartWithin i m (with_voice n v p)
voiced_within i m zero v p q f = record { first = q; second = f.second }
voiced_within i m (suc n) v p q f = record { first = f.first; second = q }

module _ (ps : List Part) (track voice : ℕ) (v : Voice) (running : ℕ) where
  abbrev voiced : List Part
  voiced = lists.put_voice track voice v ps

  abbrev put : List Part
  put = lists.put_running track running voiced

  parts_number : length put ≡ length ps
  parts_number = length-put_running track voiced running ∙ length-put_voice track ps voice v

  parts_fit : All PartFits ps → VoiceFits v → running < 256 → All PartFits put
  parts_fit f q r = put_running_fits track voiced running r (put_voice_fits track ps voice v q f)

  parts_show : (s t : List ℕ) → All PartFits ps → VoiceFits v → track < length ps
      → (words s).put_running track running ((words s).put_voice track voice v (shown parts t ps)) ≡ shown parts t put
  parts_show s t f q h =
      rw (put_voice_shows s t ps f track h voice v q)
      (put_running_shows s t voiced (put_voice_fits track ps voice v q f) track
      (omega (arith, length-put_voice track ps voice v)) running)

  -- with more rows and members than before
  parts_within : (i j m n : ℕ) → All (PartWithin i m) ps → i ≤ j → m ≤ n → VoiceWithin j n v → All (PartWithin j n) put
  parts_within i j m n f h k q =
      let later : All (PartWithin j n) ps =
      all_weaker (PartWithin i m) (PartWithin j n)
      (λ p g. record { first = voice_later g.first h k; second = voice_later g.second h k }) ps f in
      all_change (PartWithin j n) (with_running running) (λ p g. record { first = g.first; second = g.second })
      voiced track
      (all_change (PartWithin j n) (with_voice voice v) (λ p g. voiced_within j n voice v p q g) ps track later)

-- ---- texts

module _ (n : ℕ) (u : TextIs) (ts : List TextIs) (e : n ≡ length ts) where
  text_number : texts_after lists n u ts ≡ length (keep_text lists n u ts)
  text_number = go (lists.entered n u ts)
    where
      go : (t : Bool) → pick t n (n + 1) ≡ length (pick t ts (ts ++ (u ∷ [])))
      go true = e
      go false = rw length-append (omega arith)

  text_held : (s : List ℕ) → All (TextHeld s) ts → TextHeld s u → All (TextHeld s) (keep_text lists n u ts)
  text_held s f q =
      pick_both (All (TextHeld s)) (lists.entered n u ts) ts (ts ++ (u ∷ [])) f (all_more (TextHeld s) ts u f q)

  text_bound : length (keep_text lists n u ts) ≤ length ts + 1
  text_bound =
      pick_both (λ l. length l ≤ length ts + 1) (lists.entered n u ts) ts (ts ++ (u ∷ [])) (omega arith)
      (rw length-append (omega arith))

  module _ (s t : List ℕ) (f : All (TextHeld s) ts) (r : length ts * text_stride ≤ length t) where
    text_entered : (words s).entered n u (shown texts t ts) ≡ lists.entered n u ts
    text_entered = entered_shows s t u ts f n (omega arith) r

    text_shows : keep_text (words s) n u (shown texts t ts) ≡ shown texts t (keep_text lists n u ts)
    text_shows =
        rw text_entered
        (pick_shows (shown texts t) (lists.entered n u ts) ts (ts ++ (u ∷ [])) refl
        (add_shows s t texts n u ts tt (sym e)))

    text_count : n + 1 ≤ LARGEST → texts_after (words s) n u (shown texts t ts) ≡ texts_after lists n u ts
    text_count h = rw (text_entered, plus_is n 1 h)

  -- where the beat has a text, and where it has none
  texts_number : (t : Bool) → pick t (texts_after lists n u ts) n ≡ length (pick t (keep_text lists n u ts) ts)
  texts_number true = text_number
  texts_number false = e

  texts_bound : (t : Bool) (room : ℕ) → length ts ≤ room
      → length (pick t (keep_text lists n u ts) ts) ≤ pick t (room + 1) room
  texts_bound true room h = omega (arith, text_bound)
  texts_bound false room h = h

room_bound : (t : Bool) (room at n : ℕ) → room ≤ at → at + 1 ≤ n → pick t (room + 1) room ≤ n
room_bound true room at n h k = omega arith
room_bound false room at n h k = omega arith

room_more : (t : Bool) (room : ℕ) → room ≤ pick t (room + 1) room
room_more true room = omega arith
room_more false room = omega arith

room_same : (s : List ℕ) (t : Bool) (a b : ℕ) → a ≡ b → b + 1 ≤ LARGEST
    → pick t ((words s).plus a 1) a ≡ pick t (b + 1) b
room_same s true a b e h = rw e (plus_is b 1 h)
room_same s false a b e h = e

beat_text_held : (s : List ℕ) (u : TextIs) → length s ≤ LIMIT → OfFile s u.text → TextHeld s u
beat_text_held s u h f =
    record {
      is = f.is;
      range = record {
        start = omega (arith, f.inside.sorted, f.inside.ends);
        end = omega (arith, f.inside.ends);
      };
    }

-- ---- what becomes of the rows of a beat, on lists and on words

module _ (s : List ℕ) (t : Lent) where
  pub record BeatKept (w : Walk Lists) (y : Walk Words) (room : ℕ) (k : Rowing Lists) (l : Rowing Words) : Type 0 where
    pub fits : RowingFits k
    pub same : SameKept k l
    pub rows_more : length w.rows ≤ length k.rows
    pub rows_few : length k.rows ≤ length w.rows + 2
    pub members_more : length w.members ≤ length k.members
    pub members_few : length k.members ≤ length w.members + 14
    pub points_few : length k.points ≤ length w.points + room
    pub shows : length k.members * member_stride ≤ length t.members → TablesShown s t w y → l ≡ on_words t k

-- ---- the walk after them

module _ (s : List ℕ) (short : length s ≤ LIMIT) (t : Lent) (g : Opening) (bar track voice at n : ℕ) (x : BeatIs)
    (f : BeatFacts s at x n) (w : Walk Lists) (y : Walk Words) (h : WalkShown s t g w y at)
    (k : Rowing Lists) (l : Rowing Words) (b : BeatKept s t w y (bend_rooms x.strings 0 x.notes) k l)
    (running : ℕ) (ls : List Loss) where
  abbrev X : Walk Lists
  X = after_rows lists bar track voice x k running ls w

  abbrev Y : Walk Words
  Y = after_rows (words s) bar track voice x l running ls y

  abbrev u : TextIs
  u = text_for bar track x

  room_before : Room s t X → Room s t w
  unfolding after_rows
  room_before r =
      record {
        bars = omega (arith, r.bars, length-tempo bar w.bars x.mix.tempo);
        rows = omega (arith, r.rows, b.rows_more);
        members = omega (arith, r.members, b.members_more);
        points = omega (arith, r.points);
        texts = omega (arith, r.texts, room_more (has_text x) w.tally.text_room);
      }

  tables_after_lem : bar < g.counts.bars → Room s t X → TablesShown s t X Y
  unfolding after_rows
  tables_after_lem i r =
      let before : TablesShown s t w y = h.tables (room_before r) in
      let kept : l ≡ on_words t k = b.shows r.members before in
      let room : length w.texts * text_stride ≤ length t.texts =
      omega (arith, (room_before r).texts, h.texts_bound) in
      let inside : bar < length w.bars = omega (arith, h.bars_number) in
      let fits : BarFits (get_or w.bars bar no_bar) = all_get BarFits w.bars bar no_bar h.bars_fit inside in
      record {
        bars = rw before.bars (tempo_shows s t.bars bar w.bars inside x.mix.tempo fits.tempo);
        rows = ap (λ (z : Rowing Words). z.rows) kept;
        members = ap (λ (z : Rowing Words). z.members) kept;
        points = ap (λ (z : Rowing Words). z.points) kept;
        texts =
            rw (before.texts, before.texts_number)
            (pick_shows (shown texts t.texts) (has_text x) _ w.texts
            (text_shows w.tally.texts u w.texts h.texts_number s t.texts h.texts_held room) refl);
        texts_number =
            rw (
              before.texts,
              before.texts_number,
              text_count w.tally.texts u w.texts h.texts_number s t.texts h.texts_held room
                  (omega (arith, h.texts_number, h.texts_bound, h.text_room_bound, f.starts, f.ends)),
            );
        flat = before.flat;
      }

  pub walk_after : bar < g.counts.bars → track < g.counts.tracks → running < 256 → length ls ≤ 50
      → WalkShown s t g X Y n
  unfolding after_rows
  walk_after i j q m =
      record {
        bars_number = length-tempo bar w.bars x.mix.tempo ∙ h.bars_number;
        parts_number = parts_number w.parts track voice k.voice running ∙ h.parts_number;
        parts =
            rw (h.parts, b.same.voice)
            (parts_show w.parts track voice k.voice running s t.parts h.part_fits b.fits.fits
            (omega (arith, h.parts_number)));
        part_fits = parts_fit w.parts track voice k.voice running h.part_fits b.fits.fits q;
        within =
            parts_within w.parts track voice k.voice running
            (length w.rows) (length k.rows) (length w.members) (length k.members)
            h.within b.rows_more b.members_more b.fits.within;
        kept = b.same.kept;
        rows_number = b.fits.rows;
        members_number = b.fits.members;
        points_number = b.fits.points;
        texts_number = texts_number w.tally.texts u w.texts h.texts_number (has_text x);
        text_room =
            room_same s (has_text x) y.tally.text_room w.tally.text_room h.text_room
            (omega (arith, h.text_room_bound, f.starts, f.ends));
        point_room =
            rw h.point_room
            (plus_is w.tally.point_room (bend_rooms x.strings 0 x.notes)
            (omega (arith, h.point_room_bound, f.notes.rooms, f.ends)));
        losses =
            rw h.losses
            (report_is s ls w.tally.losses (64 * at + 64) h.few (omega (arith, f.starts, f.ends)));
        few =
            all_weaker (UpTo (64 * at + 64 + length ls)) (UpTo (64 * n + 64)) (λ a c. omega (arith, f.starts))
            (report lists ls w.tally.losses) (report_up_to ls w.tally.losses (64 * at + 64) h.few);
        rows_bound = omega (arith, b.rows_few, h.rows_bound, f.starts);
        members_bound = omega (arith, b.members_few, h.members_bound, f.starts);
        points_bound = omega (arith, b.points_few, h.points_bound);
        point_room_bound = omega (arith, h.point_room_bound, f.notes.rooms);
        texts_bound =
            texts_bound w.tally.texts u w.texts h.texts_number (has_text x) w.tally.text_room
            h.texts_bound;
        text_room_bound = room_bound (has_text x) w.tally.text_room at n h.text_room_bound f.starts;
        texts_held =
            pick_both (All (TextHeld s)) (has_text x) (keep_text lists w.tally.texts u w.texts) w.texts
            (text_held w.tally.texts u w.texts h.texts_number s h.texts_held
            (beat_text_held s u short f.text))
            h.texts_held;
        bars_fit = tempo_fits bar w.bars x.mix.tempo f.tempo h.bars_fit;
        tables = tables_after_lem i;
      }
