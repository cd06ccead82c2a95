-- Every row of a file that is read carries the bytes of its own beat, and these rise.
use Rattle.std.specs.Prelude.{Option}
use Prim.Native.Nat.{ℕ, ◌≤◌, ◌<◌}
use native.Mathlib.Omega.{arith}
use mathlib.Core.Logic.{inl, inr}
use mathlib.Core.Path.{◌≡◌, refl, sym, ap, ◌∙◌}
use mathlib.Core.Bool.{Bool, true, false}
use mathlib.Core.List.{List, [], ◌∷◌, ◌++◌}
use lib.ListN.{length, get_or, take}
use Rattle.format.specs.declared.Stop.TheVariants.{Ends}
use Rattle.format.specs.Text.{pick}
use Rattle.format.specs.Prog.{ok, stopped, run}
use Rattle.format.specs.Yields.{Yields}
use Rattle.format.proofs.Run.{run_cut, run_within}
use Rattle.format.proofs.Yields.{yield_ret, yield_bind, yield_after, yield_turns}
use Rattle.model.specs.declared.Row.{Row}
use Rattle.model.specs.declared.RowKind.TheVariants.{Beat}
use Rattle.model.specs.declared.RowPlace.{RowPlace}
use Rattle.beat.specs.Beat as B
use Rattle.beat.specs.Beat.{BeatIs}
use Rattle.score.specs.declared.Fretboard.{Fretboard}
use Rattle.score.specs.declared.Part.{Part}
use Rattle.score.specs.declared.Voice.{Voice}
use Rattle.score.specs.Sounding.{Sounding, sounding, remember}
use Rattle.score.specs.Members.{Keyed, Graced, in_order, graces}
use Rattle.score.specs.Rows.{RowIs, rest_row, chord_row, grace_row, grace_rows, beat_row, rows_of}
use Rattle.score.specs.File.{Opening, bars, bar, bar_track, voice, one_beat, score, file}
use Rattle.score.specs.Page.{Walk, Rowing, with_frets, row_entry, ottava_marks, keep_row, keep_rows}
use Rattle.score.specs.Page.{enter_bar, add_beat, no_beats, keeping}
use Rattle.score.specs.Score.{Lists, lists, none, no_part, scored}
use Rattle.score.specs.Reading.{Score}
use Rattle.score.proofs.Facts.{BeatFacts, beat_facts}
use Rattle.refine.proofs.All.{all_get, all_weaker}
use Rattle.ranges.specs.Ranges.{Shows, Within, GraceOf, Follows, Rising, Apart}
use Rattle.ranges.proofs.Rows.{last_of_all, Stands, stands_later, Risen, row_risen, rows_apart}

-- ---- the rows of a beat that is read from `at` on and ends at n

abbrev Any : Row → Type 0
Any r = Unit {0}

module _ (s : List ℕ) (v at n : ℕ) (b : BeatIs) (read : run (B.beat v) s at ≡ ok b n) (f : BeatFacts s at b n)
    (kept : b.head.kept ≡ true) (place : RowPlace) (board : Fretboard) (frets : List (Option ℕ)) (flat : Bool)
    (running : ℕ) where
  abbrev xs : List Keyed
  xs = in_order board (sounding board frets b)

  -- a row of the beat, and its entry
  record OwnRow (r : RowIs) : Type 0 where
    stands : r.place ≡ place
    range : r.beat ≡ b.range

  abbrev entered : RowIs → Rowing Lists → Row
  entered r w = row_entry r (ottava_marks r w.voice.run) w.kept

  row_stands : (r : RowIs) → OwnRow r → (before after : List RowIs)
      → rows_of place board flat running b xs ≡ before ++ (r ∷ after) → (w : Rowing Lists) → Stands s v n (entered r w)
  unfolding row_entry
  row_stands r own before after among w =
      let range : r.beat ≡ record { start = at; end = n } = own.range ∙ f.range in
      record {
        shows = record {
          beat = b;
          read = rw range read;
          kept = kept;
          row_of = record {
            board = board;
            frets = frets;
            flat = flat;
            running = running;
            before = before;
            row = r;
            after = after;
            among = ap (λ (p : RowPlace). rows_of p board flat running b xs) own.stands ∙ among;
            marks = ottava_marks r w.voice.run;
            kept = w.kept;
            is = refl;
          };
        };
        within = record { starts = rw range (omega (arith, f.starts)); ends = rw range (omega arith) };
      }

  keep_risen : (r : RowIs) (w : Rowing Lists) (P : Row → Type 0) → Risen s v n (λ q. Follows q (entered r w)) w.rows
      → Stands s v n (entered r w) → P (entered r w) → Risen s v n P (keep_row lists r w).rows
  unfolding keep_row
  keep_risen r w P so stands p = row_risen s v n (entered r w) r w.voice.hammer w.voice.run w.rows P so stands p

  -- rows that end where the beat starts are followed by any row of it
  start_risen : (r : RowIs) → OwnRow r → (w : Rowing Lists) → Risen s v at Any w.rows
      → Risen s v n (λ q. Follows q (entered r w)) w.rows
  unfolding row_entry
  start_risen r own w so =
      let range : r.beat ≡ record { start = at; end = n } = own.range ∙ f.range in
      record {
        each = stands_later s v at n (omega (arith, f.starts)) w.rows so.each;
        rising = so.rising;
        last =
            last_of_all (λ q. Follows q (entered r w)) w.rows
            (all_weaker (Stands s v at) (λ q. Follows q (entered r w)) (λ q st. inr (rw range st.within.ends))
            w.rows so.each);
      }

  beat_own : (ys : List Keyed) → OwnRow (beat_row place board flat running b ys)
  unfolding rest_row chord_row
  beat_own [] = record { stands = refl; range = refl }
  beat_own (y ∷ ys) = record { stands = refl; range = refl }

  beat_kind : (ys : List Keyed) → (beat_row place board flat running b ys).kind ≡ Beat
  unfolding rest_row chord_row
  beat_kind [] = refl
  beat_kind (y ∷ ys) = refl

  grace_own : (g : Graced) (gs : List Graced) → OwnRow (grace_row place board flat b.range (g ∷ gs))
  unfolding grace_row
  grace_own g gs = record { stands = refl; range = refl }

  abbrev own : RowIs
  own = beat_row place board flat running b xs

  grace_of_lem : (g : Graced) (gs : List Graced) (w then : Rowing Lists)
      → GraceOf (entered (grace_row place board flat b.range (g ∷ gs)) w) (entered own then)
  unfolding row_entry grace_row
  grace_of_lem g gs w then =
      record { grace = refl; beat = beat_kind xs; place = sym (beat_own xs).stands; range = sym (beat_own xs).range }

  -- a beat without graces, and one with
  graced_risen : (gs : List Graced)
      → rows_of place board flat running b xs ≡ grace_rows place board flat b.range gs ++ (own ∷ [])
      → (w : Rowing Lists) → Risen s v at Any w.rows
      → Risen s v n Any (keep_rows lists (grace_rows place board flat b.range gs ++ (own ∷ [])) w).rows
  graced_risen [] among w so =
      keep_risen own w Any (start_risen own (beat_own xs) w so) (row_stands own (beat_own xs) [] [] among w) tt
  graced_risen (g ∷ gs) among w so =
      let grace : RowIs = grace_row place board flat b.range (g ∷ gs) in
      let its : OwnRow grace = grace_own g gs in
      let then : Rowing Lists = keep_row lists grace w in
      keep_risen own then Any
      (keep_risen grace w (λ q. Follows q (entered own then)) (start_risen grace its w so)
      (row_stands grace its [] (own ∷ []) among w) (inl (grace_of_lem g gs w then)))
      (row_stands own (beat_own xs) (grace ∷ []) [] among then) tt

  pub rows_risen : (w : Rowing Lists) → Risen s v at Any w.rows
      → Risen s v n Any (keep_rows lists (rows_of place board flat running b xs) w).rows
  unfolding rows_of
  rows_risen w so = graced_risen (graces xs) refl w so

-- ---- while beats are added

module _ (s : List ℕ) (v : ℕ) where
  abbrev Walked : Walk Lists → ℕ → Type 0
  Walked w at = Risen s v at Any w.rows

  later : (w : Walk Lists) (at n : ℕ) → at ≤ n → Walked w at → Walked w n
  later w at n h so = record { each = stands_later s v at n h w.rows so.each; rising = so.rising; last = so.last }

  enter_walked : (b at : ℕ) (w : Walk Lists) → Walked w at → Walked (enter_bar lists b w) at
  unfolding enter_bar
  enter_walked b at w so = so

  beat_walked : (b t i at n : ℕ) (x : BeatIs) (w : Walk Lists) → run (B.beat v) s at ≡ ok x n → BeatFacts s at x n
      → Walked w at → Walked (add_beat lists b t i x w) n
  unfolding add_beat
  beat_walked b t i at n x w read f so =
      let part : Part = get_or w.parts t no_part in
      let memory : Voice = lists.voice_at t i w.parts in
      let heard : List Sounding = sounding part.board memory.frets x in
      let before : Rowing Lists = record {
        rows = w.rows;
        members = w.members;
        points = w.points;
        kept = w.tally.kept;
        voice = with_frets memory (remember memory.frets heard);
      } in
      let rs : List RowIs =
      rows_of (record { bar = b; track = t; voice = i }) part.board w.tally.flat part.running x
      (in_order part.board heard) in
      go x.head.kept refl before rs
      (λ kept. rows_risen s v at n x read f kept _ part.board memory.frets w.tally.flat part.running before so)
      (later w at n (omega (arith, f.starts)) so)
    where
      go : (k : Bool) → x.head.kept ≡ k → (before : Rowing Lists) (rs : List RowIs)
          → (x.head.kept ≡ true → Risen s v n Any (keep_rows lists rs before).rows) → Risen s v n Any before.rows
          → Risen s v n Any (pick k (keep_rows lists rs before) before).rows
      go true e before rs rises stays = rises e
      go false e before rs rises stays = stays

  bars_walked : (g : Opening) → g.version ≡ v → (w : Walk Lists) (at : ℕ) → Walked w at
      → Yields s (bars (keeping lists none) g w) at Walked
  unfolding bars bar bar_track voice one_beat
  bars_walked g is w at so =
      yield_turns Walked _ (λ b w m so. yield_turns Walked _ (λ t w m so.
      yield_after _ _ (λ vs k on. yield_turns Walked _ (λ i w m so.
      yield_after _ _ (λ c k on. yield_turns Walked _ (λ j w m so.
      yield_bind _ (beat_read m) (λ x n _ h. yield_ret (beat_walked b t i m n x w h.0 h.1 so)))
      c 0 w (later w m k on.0 so)))
      vs 0 w (later w m k on.0 so)))
      g.counts.tracks 0 _ (enter_walked b m w so))
      g.counts.bars 0 w so
    where
      beat_read : (m : ℕ) → Yields s (B.beat g.version) m (λ x n. (run (B.beat v) s m ≡ ok x n) × BeatFacts s m x n)
      beat_read m =
          record { yields = λ l x n e. (rw is at e, (beat_facts s g.version m).yields l x n e) }

file_walked : (s : List ℕ) → Yields s scored 0 (λ x n. Risen s x.song.version n Any x.bars.rows)
unfolding scored file score no_beats
file_walked s =
    yield_after _ _ (λ g _ _. yield_after _ _ (λ h _ _. yield_after _ _ (λ u m _.
    yield_bind _
    (bars_walked s g.version g refl _ m (record { each = tt; rising = tt; last = tt }))
    (λ w n _ so. yield_ret so))))

-- ==== document 02, f: of any file s that is read, with the score x of n bytes

module _ (s : List ℕ) (x : Score) (n : ℕ) (e : run scored s 0 ≡ ok x n) where
  abbrev rows : List Row
  rows = x.bars.rows

  abbrev v : ℕ
  v = x.song.version

  walked : Risen s v n Any rows
  walked = (file_walked s).yields (omega arith) x n e

  module _ (none : Row) where
    -- "Every row carries the start and end of its beat in the file"
    pub row_shows : (k : ℕ) → k < length rows → Shows s v (get_or rows k none)
    row_shows k h = (all_get (Stands s v n) rows k none walked.each h).shows

    pub row_within : (k : ℕ) → k < length rows → Within n (get_or rows k none)
    row_within k h = (all_get (Stands s v n) rows k none walked.each h).within

    -- and no byte less: cut off within its range, the beat is truncated
    pub row_shows_all : (k m : ℕ) → k < length rows → (get_or rows k none).beat.start ≤ m → m < (get_or rows k none).beat.end
        → run (B.beat v) (take m s) (get_or rows k none).beat.start ≡ stopped Ends
    row_shows_all k m h l j =
        let r : Row = get_or rows k none in
        run_cut (B.beat v) s r.beat.start r.beat.end m (row_shows k h).beat l j
        (omega (arith, j, (row_within k h).ends, (run_within scored s 0 n x (omega arith) e).1)) (row_shows k h).read

    -- "Within one file, beat ranges of different beats do not overlap and rise in row order"
    pub ranges_apart : (i j : ℕ) → i < j → j < length rows → Apart i j (get_or rows i none) (get_or rows j none)
    ranges_apart i j l h = rows_apart s v n none rows i j walked.rising walked.each l h

  pub rows_rising : Rising rows
  rows_rising = walked.rising
