-- Adding a beat to the words shows adding it to the lists.
use Prim.Native.Nat.{ℕ, zero, suc, ◌+◌, ◌*◌, ◌≤◌, ◌<◌}
use mathlib.Core.Path.{◌≡◌, refl, ◌∙◌}
use mathlib.Core.Bool.{Bool, true, false}
use mathlib.Core.List.{List, []}
use native.Mathlib.Omega.{arith}
use lib.ListN.{length, get_or}
use Rattle.format.specs.Verdict.{LIMIT}
use Rattle.format.specs.Text.{pick}
use Rattle.model.specs.declared.RowPlace.{RowPlace}
use Rattle.beat.specs.Beat.{BeatIs}
use Rattle.score.specs.declared.Fretboard.{Fretboard}
use Rattle.score.specs.declared.Part.{Part}
use Rattle.score.specs.declared.Voice.{Voice}
use Rattle.score.specs.File.{Opening}
use Rattle.score.specs.Members.{Keyed, in_order}
use Rattle.score.specs.Rows.{RowIs, rows_of}
use Rattle.score.specs.Sounding.{Sounding, sounding, remember}
use Rattle.score.specs.Page.{Kind, Operations, Walk, Rowing, bend_rooms, with_frets}
use Rattle.score.specs.Page.{keep_rows, running_after, beat_losses, add_beat}
use Rattle.score.specs.Score.{Lists, lists, no_part, voice_of}
use Rattle.score.proofs.Facts.{BeatFacts, CountsFacts}
use Rattle.words.specs.Lent.{Lent}
use Rattle.words.specs.Words.{part_stride, Words, words}
use Rattle.refine.proofs.All.{All, all_get, all_weaker}
use Rattle.refine.proofs.After.{after_rows, BeatKept, walk_after}
use Rattle.refine.proofs.Alike.{VoiceWithin, PartWithin, WalkShown}
use Rattle.refine.proofs.Counts.{UpTo}
use Rattle.refine.proofs.Given.{RowsFit, AlikeRows, rows_fit, rows_alike}
use Rattle.refine.proofs.Heard.{SoundFits, KeyedFits, sounding_fits, sounding_number, length-remember}
use Rattle.refine.proofs.Heard.{remember_fits, order_fits, length_order, running_fits, beat_losses_lem}
use Rattle.refine.proofs.Keeping.{RowingFits, Below, on_words, rows_after, members_after, points_after}
use Rattle.refine.proofs.Keeping.{keep_rows_fits, keep_rows_same, keep_rows_show}
use Rattle.refine.proofs.Ops.{board_shows, voice_shows, running_shows}
use Rattle.refine.proofs.Parts.{VoiceFits, PartFits, voice_of_fits}
use Rattle.refine.proofs.Shown.{pick_both}

-- ---- a beat in two steps: its rows, and what becomes of the walk then

abbrev rows_for : RowPlace → Fretboard → Bool → ℕ → BeatIs → List Keyed → List RowIs
rows_for place board flat running b xs = pick b.head.kept (rows_of place board flat running b xs) []

abbrev place_of : (bar track voice : ℕ) → RowPlace
place_of bar track voice = record { bar = bar; track = track; voice = voice }

module _ {T : Kind → Type 0} (the : Operations T) where
  abbrev rowing : Voice → Walk T → Rowing T
  rowing v w = record { rows = w.rows; members = w.members; points = w.points; kept = w.tally.kept; voice = v }

  -- by what is remembered of the track
  unfoldable added : (bar track voice : ℕ) → BeatIs → Fretboard → Voice → ℕ → Walk T → Walk T
  added bar track voice b board memory running w =
      let heard : List Sounding = sounding board memory.frets b in
      let xs : List Keyed = in_order board heard in
      after_rows the bar track voice b
      (keep_rows the (rows_for (place_of bar track voice) board w.tally.flat running b xs)
      (rowing (with_frets memory (remember memory.frets heard)) w))
      (running_after the running b xs) (beat_losses the b xs) w

  keep_is : (t : Bool) (rs : List RowIs) (w : Rowing T) → pick t (keep_rows the rs w) w ≡ keep_rows the (pick t rs []) w
  keep_is true rs w = refl
  keep_is false rs w = refl

  add_is : (bar track voice : ℕ) (b : BeatIs) (w : Walk T)
      → add_beat the bar track voice b w
      ≡ added bar track voice b (the.board_at track w.parts) (the.voice_at track voice w.parts)
      (the.running_at track w.parts) w
  unfolding add_beat added after_rows
  add_is bar track voice b w = rw (keep_is b.head.kept)

-- ---- the rows of a beat, by what is remembered of its track

none_fit : (room : ℕ) → RowsFit room []
none_fit room = record { rows = omega arith; members = omega arith; points = omega arith; each = tt }

either_alike : (t : Bool) (rs qs : List RowIs) → AlikeRows rs qs → AlikeRows (pick t rs []) (pick t qs [])
either_alike true rs qs a = a
either_alike false rs qs a = tt

voice_within : (i m n : ℕ) (p : Part) → PartWithin i m p → VoiceWithin i m (voice_of n p)
voice_within i m zero p f = f.first
voice_within i m (suc n) p f = f.second

module _ (s : List ℕ) (short : length s ≤ LIMIT) (t : Lent) (g : Opening) (bar track voice at n : ℕ) (x : BeatIs)
    (f : BeatFacts s at x n) (w : Walk Lists) (y : Walk Words) (h : WalkShown s t g w y at)
    (inside : track < length w.parts) where
  abbrev board : Fretboard
  board = lists.board_at track w.parts

  abbrev memory : Voice
  memory = lists.voice_at track voice w.parts

  abbrev running : ℕ
  running = lists.running_at track w.parts

  abbrev heard : List Sounding
  heard = sounding board memory.frets x

  abbrev xs : List Keyed
  xs = in_order board heard

  abbrev room : ℕ
  room = bend_rooms x.strings 0 x.notes

  abbrev remembered : Voice
  remembered = with_frets memory (remember memory.frets heard)

  abbrev rs : Bool → List RowIs
  rs flat = rows_for (place_of bar track voice) board flat running x xs

  part_fits : PartFits (get_or w.parts track no_part)
  part_fits = all_get PartFits w.parts track no_part h.part_fits inside

  memory_fits : VoiceFits memory
  memory_fits = voice_of_fits voice (get_or w.parts track no_part) part_fits

  heard_fits : All (SoundFits board room) heard
  heard_fits = sounding_fits board memory.frets x memory_fits.frets f.notes.each

  chord_fits : All (KeyedFits board room) xs
  chord_fits = order_fits board room heard heard_fits

  chord_number : length xs ≤ 7
  chord_number = omega (arith, length_order board heard, sounding_number board memory.frets x)

  remembered_fits : RowingFits (rowing lists remembered w)
  remembered_fits =
      let there : VoiceWithin (length w.rows) (length w.members) memory =
      voice_within (length w.rows) (length w.members) voice (get_or w.parts track no_part)
      (all_get (PartWithin (length w.rows) (length w.members)) w.parts track no_part h.within inside) in
      record {
        rows = h.rows_number;
        members = h.members_number;
        points = h.points_number;
        within = record { hammer = there.hammer; run = there.run; last = there.last };
        fits = record {
          strings = length-remember memory.frets heard ∙ memory_fits.strings;
          frets = remember_fits board room memory.frets heard memory_fits.frets heard_fits;
          hammer = memory_fits.hammer;
        };
      }

  rows_fit_all : (flat : Bool) → RowsFit room (rs flat)
  rows_fit_all flat =
      pick_both (RowsFit room) x.head.kept (rows_of (place_of bar track voice) board flat running x xs) []
      (rows_fit (place_of bar track voice) board flat running x room xs chord_fits chord_number) (none_fit room)

  below : (flat : Bool) → Below (rowing lists remembered w) (rs flat)
  below flat =
      let q : RowsFit room (rs flat) = rows_fit_all flat in
      record {
        rows = omega (arith, h.rows_number, h.rows_bound, q.rows, f.starts, f.ends);
        members = omega (arith, h.members_number, h.members_bound, q.members, f.starts, f.ends);
        points =
            omega (arith, h.points_number, h.points_bound, h.point_room_bound, q.points, f.notes.rooms, f.ends);
      }

  beat_kept : BeatKept s t w y room (keep_rows lists (rs w.tally.flat) (rowing lists remembered w))
      (keep_rows (words s) (rs y.tally.flat) (rowing (words s) remembered y))
  beat_kept =
      let list : List RowIs = rs w.tally.flat in
      let read : Rowing Lists = rowing lists remembered w in
      let q : RowsFit room list = rows_fit_all w.tally.flat in
      record {
        fits = keep_rows_fits list read q.each remembered_fits;
        same =
            keep_rows_same s list (rs y.tally.flat)
            (either_alike x.head.kept _ _
            (rows_alike (place_of bar track voice) board w.tally.flat y.tally.flat running x xs))
            read (rowing (words s) remembered y) (below w.tally.flat) (record { kept = h.kept; voice = refl });
        rows_more = omega (arith, rows_after list read);
        rows_few = omega (arith, rows_after list read, q.rows);
        members_more = omega (arith, members_after list read);
        members_few = omega (arith, members_after list read, q.members);
        points_few = omega (arith, points_after list read, q.points);
        shows = λ r before.
            let same : rowing (words s) remembered y ≡ on_words t read =
            λ i. record {
              rows = before.rows i;
              members = before.members i;
              points = before.points i;
              kept = h.kept i;
              voice = remembered;
            } in
            rw (before.flat, same) (keep_rows_show s t list read remembered_fits q.each (below w.tally.flat) r);
      }

  added_shown : bar < g.counts.bars → track < g.counts.tracks
      → WalkShown s t g (added lists bar track voice x board memory running w)
      (added (words s) bar track voice x board memory running y) n
  unfolding added
  added_shown i j =
      walk_after s short t g bar track voice at n x f w y h
      (keep_rows lists (rs w.tally.flat) (rowing lists remembered w))
      (keep_rows (words s) (rs y.tally.flat) (rowing (words s) remembered y))
      beat_kept (running_after lists running x xs) (beat_losses lists x xs) i j
      (running_fits lists board room running x xs chord_fits part_fits.running)
      (beat_losses_lem lists x xs f.notes.seven chord_number)

-- ---- a beat

module _ (s : List ℕ) (short : length s ≤ LIMIT) (t : Lent) (own : 100 * part_stride ≤ length t.parts) where
  pub beat_shown : (g : Opening) → CountsFacts g.counts → (b track voice at n : ℕ) → track < g.counts.tracks
      → b < g.counts.bars → (x : BeatIs) → BeatFacts s at x n
      → (w : Walk Lists) (y : Walk Words) → WalkShown s t g w y at
      → WalkShown s t g (add_beat lists b track voice x w) (add_beat (words s) b track voice x y) n
  beat_shown g c b track voice at n i j x f w y h =
      let inside : track < length w.parts = omega (arith, h.parts_number) in
      let room : length w.parts * part_stride ≤ length t.parts = omega (arith, h.parts_number, c.tracks) in
      let board : (words s).board_at track y.parts ≡ lists.board_at track w.parts =
      rw h.parts (board_shows s t.parts w.parts h.part_fits track inside room) in
      let memory : (words s).voice_at track voice y.parts ≡ lists.voice_at track voice w.parts =
      rw h.parts (voice_shows s t.parts w.parts h.part_fits track inside room voice) in
      let running : (words s).running_at track y.parts ≡ lists.running_at track w.parts =
      rw h.parts (running_shows s t.parts w.parts h.part_fits track inside room) in
      rw (add_is lists b track voice x w, add_is (words s) b track voice x y, board, memory, running)
      (added_shown s short t g b track voice at n x f w y h inside j i)

-- a state that is shown up to a position is shown up to a later one
pub walk_later : {s : List ℕ} {t : Lent} {g : Opening} {w : Walk Lists} {y : Walk Words} {at m : ℕ}
    → WalkShown s t g w y at → at ≤ m → WalkShown s t g w y m
walk_later {w = w} {at = at} {m = m} h l =
    record {
      bars_number = h.bars_number;
      parts_number = h.parts_number;
      parts = h.parts;
      part_fits = h.part_fits;
      within = h.within;
      kept = h.kept;
      rows_number = h.rows_number;
      members_number = h.members_number;
      points_number = h.points_number;
      texts_number = h.texts_number;
      text_room = h.text_room;
      point_room = h.point_room;
      losses = h.losses;
      few = all_weaker (UpTo (64 * at + 64)) (UpTo (64 * m + 64)) (λ a c. omega arith) w.tally.losses h.few;
      rows_bound = omega (arith, h.rows_bound);
      members_bound = omega (arith, h.members_bound);
      points_bound = h.points_bound;
      point_room_bound = omega (arith, h.point_room_bound);
      texts_bound = h.texts_bound;
      text_room_bound = omega (arith, h.text_room_bound);
      texts_held = h.texts_held;
      bars_fit = h.bars_fit;
      tables = h.tables;
    }
