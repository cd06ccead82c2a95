-- A pass that only counts beside one that enters: it stops where that stops and for the same reason, and where that comes
-- to its end it has counted the same rows and members and the same rooms.
use Rattle.std.specs.Prelude.{None, Option, Some}
use Prim.Native.Nat.{ℕ, zero, suc, ◌+◌, ◌*◌, ◌≤◌, ◌<◌}
use mathlib.Core.Path.{◌≡◌, refl, ap, sym, ◌∙◌}
use mathlib.Core.Bool.{Bool, true, false}
use mathlib.Core.List.{List, [], ◌∷◌, ◌++◌, map}
use native.Mathlib.Decide.{dec_le}
use native.Mathlib.Omega.{arith}
use borrow.Author.Tests.{ne_eqb}
use lib.Dec.{eqb, ltb}
use lib.ListN.{length, get_or, set, length-map, length-append}
use lib.Seq.{sets, get_or-set_other}
use Rattle.format.specs.declared.Stop.{Stop}
use Rattle.format.specs.Verdict.{LIMIT, up_to}
use Rattle.format.specs.Prog.{Res, ok, stopped, run}
use Rattle.format.specs.Text.{pick}
use Rattle.format.specs.Yields.{Bytes}
use Rattle.model.specs.declared.RowPlace.{RowPlace}
use Rattle.note.specs.Note.{NoteIs, no_note}
use Rattle.beat.specs.Beat.{BeatIs}
use Rattle.score.specs.declared.Fretboard.{Fretboard}
use Rattle.score.specs.declared.Hammer.{Hammer}
use Rattle.score.specs.declared.KeptCounts.{KeptCounts}
use Rattle.score.specs.declared.OttavaRun.{OttavaRun}
use Rattle.score.specs.declared.Voice.{Voice}
use Rattle.score.specs.File.{file}
use Rattle.format.proofs.Verdict.{upto_bytes}
use Rattle.score.proofs.Follow.{Relations, Alike, Agreed, Both, alike}
use Rattle.score.specs.Sounding.{Sounding, sounds, sounding_at, sounding_from, sounding, remember}
use Rattle.score.specs.Members.{Keyed, keyed, put_in, ordered, in_order, Graced, graced_after, graces}
use Rattle.score.specs.Rows.{RowIs, rest_row, chord_row, grace_row, grace_rows, beat_row, rows_of}
use Rattle.score.specs.Page.{Heads, Staves, Walk, Rowing, keeping, keep_row, keep_rows, keep_beat, enter_bar, add_beat, with_frets}
use Rattle.words.specs.Lent.{Lent, lent}
use Rattle.words.specs.Words.{Words, words, part_stride, running_place, voice_place, board_from, voice_from}
use Rattle.words.specs.Words.{hammer_words, run_words, voice_words}
use Rattle.words.specs.Counted.{one_note, one_grace, grace_of, heard, kept_with, kept_of, strings_on, count_tally, count_beat, passing}
use Rattle.refine.proofs.Heard.{length-remember}
use Rattle.refine.proofs.Passes.{one_pass}
use Rattle.words.specs.Left.{needed_by}
use Rattle.refine.proofs.Rooms.{WordScore}
use Rattle.note.specs.declared.marks.Grace.{Grace}

-- ---- how many notes of a beat sound, and how many graces: a sum over them, in whatever order

module _ (each : NoteIs → ℕ) where
  abbrev sum : List Keyed → ℕ
  sum [] = 0
  sum (x ∷ xs) = each x.sound.note + sum xs

  sum-place : (x : Keyed) (ys : List Keyed) → sum (put_in x ys) ≡ each x.sound.note + sum ys
  sum-place x [] = refl
  sum-place x (y ∷ ys) = go (ltb x.key y.key) (sum-place x ys)
    where
      go : (t : Bool) → sum (put_in x ys) ≡ each x.sound.note + sum ys
          → sum (pick t (x ∷ y ∷ ys) (y ∷ put_in x ys)) ≡ each x.sound.note + (each y.sound.note + sum ys)
      go true e = refl
      go false e = omega (arith, e)

  sum-ordered : (done xs : List Keyed) → sum (ordered done xs) ≡ sum done + sum xs
  sum-ordered done [] = omega arith
  sum-ordered done (x ∷ xs) = omega (arith, sum-ordered (put_in x done) xs, sum-place x done)

  module _ (board : Fretboard) (memory : List (Option ℕ)) (b : BeatIs) where
    sum-from : (k i : ℕ) (ns : List NoteIs) → length ns ≡ k → ((j : ℕ) → get_or b.notes (i + j) no_note ≡ get_or ns j no_note)
        → sum (map (keyed board) (sounding_from k i board memory b)) ≡ heard each b.strings board.strings.count i ns
    sum-from zero i [] e h = refl
    sum-from zero i (n ∷ ns) e h = absurd (omega arith)
    sum-from (suc k) i [] e h = absurd (omega arith)
    sum-from (suc k) i (n ∷ ns) e h =
        let here : get_or b.notes i no_note ≡ n = sym (ap (λ j. get_or b.notes j no_note) (omega arith)) ∙ h 0 in
        let rest = sum-from k (i + 1) ns (omega arith) (λ j. ap (λ l. get_or b.notes l no_note) (omega arith) ∙ h (suc j)) in
        go (sounds board b i) here rest
      where
        more : List Sounding
        more = sounding_from k (i + 1) board memory b

        go : (t : Bool) → get_or b.notes i no_note ≡ n
            → sum (map (keyed board) more) ≡ heard each b.strings board.strings.count (i + 1) ns
            → sum (map (keyed board) (pick t (sounding_at memory b i ∷ more) more))
            ≡ pick t (each n) 0 + heard each b.strings board.strings.count (i + 1) ns
        go true q r = rw (q, r)
        go false q r = omega (arith, r)

    sum-chord : length b.notes ≡ 7
        → sum (in_order board (sounding board memory b)) ≡ heard each b.strings board.strings.count 0 b.notes
    unfolding in_order sounding
    sum-chord e =
        let all = map (keyed board) (sounding_from 7 0 board memory b) in
        let each-one = sum-from 7 0 b.notes e (λ j. ap (λ l. get_or b.notes l no_note) (omega arith)) in
        omega (arith, sum-ordered [] all, each-one)

count_all : (xs : List Keyed) → length xs ≡ sum one_note xs
count_all [] = refl
count_all (x ∷ xs) = omega (arith, count_all xs)

count_graced : (g : Option Grace) (x : Keyed) (gs : List Graced) → length (graced_after g x gs) ≡ one_grace g + length gs
count_graced None x gs = omega arith
count_graced (Some g) x gs = omega arith

count_graces : (xs : List Keyed) → length (graces xs) ≡ sum grace_of xs
count_graces [] = refl
count_graces (x ∷ xs) = omega (arith, count_graced x.sound.note.read.effects.grace x (graces xs), count_graces xs)

-- ---- what is kept of a beat

record SameCount (k l : KeptCounts) : Type 0 where
  rows : k.rows ≡ l.rows
  members : k.members ≡ l.members

module _ (s : List ℕ) (at : RowPlace) (board : Fretboard) (flat : Bool) (running : ℕ) (b : BeatIs) where
  beat_members : (xs : List Keyed) → length (beat_row at board flat running b xs).members ≡ length xs
  unfolding rest_row chord_row
  beat_members [] = refl
  beat_members (x ∷ xs) = rw length-map

  kept_count : (xs : List Keyed) (gs : List Graced) (w : Rowing Words)
      → SameCount (keep_rows (words s) (grace_rows at board flat b.range gs ++ (beat_row at board flat running b xs ∷ [])) w).kept
      (kept_with (length xs) (length gs) w.kept)
  unfolding keep_row grace_row
  kept_count xs [] w = record { rows = refl; members = rw (beat_members xs) }
  kept_count xs (g ∷ gs) w =
      let some : eqb (length (g ∷ gs)) 0 ≡ false = ne_eqb (length (g ∷ gs)) 0 (λ e. absurd (omega arith)) in
      record { rows = rw some; members = rw (some, beat_members xs, length-map) }

  keep_frets : (rs : List RowIs) (w : Rowing Words) → (keep_rows (words s) rs w).voice.frets ≡ w.voice.frets
  unfolding keep_row
  keep_frets [] w = refl
  keep_frets (r ∷ rs) w = keep_frets rs _

-- ---- what a track is played on stays

pub sets_below : (t : List ℕ) (at : ℕ) (u : List ℕ) (j : ℕ) → j < at → get_or (sets t at u) j 0 ≡ get_or t j 0
sets_below t at [] j h = refl
sets_below t at (a ∷ u) j h =
    sets_below (set t at a) (suc at) u j (omega arith)
    ∙ get_or-set_other t at j a 0 (λ e. absurd (omega arith))

sets_above : (t : List ℕ) (at : ℕ) (u : List ℕ) (j : ℕ) → at + length u ≤ j → get_or (sets t at u) j 0 ≡ get_or t j 0
sets_above t at [] j h = refl
sets_above t at (a ∷ u) j h =
    sets_above (set t at a) (suc at) u j (omega arith)
    ∙ get_or-set_other t at j a 0 (λ e. absurd (omega arith))

hammer_long : (h : Option Hammer) → length (hammer_words h) ≡ 3
hammer_long None = refl
hammer_long (Some w) = refl

run_long : (r : Option OttavaRun) → length (run_words r) ≡ 3
run_long None = refl
run_long (Some o) = refl

voice_long : (v : Voice) → length v.frets ≡ 7 → length (voice_words v) ≡ 15
unfolding voice_words
voice_long v e =
    rw (length-append, length-append, length-append, length-map) (omega (arith, hammer_long v.hammer, run_long v.run))

voice_starts : (voice : ℕ) → (12 ≤ voice_place voice) × (voice_place voice ≤ 27)
voice_starts zero = (omega arith, omega arith)
voice_starts (suc n) = (omega arith, omega arith)

module _ (parts : List ℕ) (track voice : ℕ) (v : Voice) (seven : length v.frets ≡ 7) (running i : ℕ) where
  abbrev at : ℕ
  at = track * part_stride + voice_place voice

  abbrev put : List ℕ
  put = sets parts at (voice_words v)

  word_voiced : get_or put (i * part_stride) 0 ≡ get_or parts (i * part_stride) 0
  word_voiced = elim (dec_le i track) [
    | yes h ↦ sets_below parts at (voice_words v) (i * part_stride) (omega (arith, (voice_starts voice).0))
    | no h ↦ sets_above parts at (voice_words v) (i * part_stride) (omega (arith, (voice_starts voice).1, voice_long v seven))
  ]

  strings_stay : strings_on i (set put (track * part_stride + running_place) running) ≡ strings_on i parts
  unfolding board_from
  strings_stay =
      rw (
        get_or-set_other put (track * part_stride + running_place) (i * part_stride) running 0 (λ e. absurd (omega arith)),
        word_voiced,
      )

-- ---- a beat, entered and counted

record Counted (x y : Walk Words) : Type 0 where
  strings : (i : ℕ) → strings_on i x.parts ≡ strings_on i y.parts
  kept : SameCount x.tally.kept y.tally.kept
  text_room : x.tally.text_room ≡ y.tally.text_room
  point_room : x.tally.point_room ≡ y.tally.point_room

same_with : (n g : ℕ) (k l : KeptCounts) → SameCount k l → SameCount (kept_with n g k) (kept_with n g l)
same_with n g k l e = record { rows = rw e.rows; members = rw e.members }

module _ (s : List ℕ) (bar track voice : ℕ) (b : BeatIs) (seven : length b.notes ≡ 7) (x y : Walk Words) (r : Counted x y) where
  abbrev board : Fretboard
  board = board_from (track * part_stride) x.parts

  abbrev memory : Voice
  memory = voice_from (track * part_stride + voice_place voice) x.parts

  abbrev xs : List Keyed
  xs = in_order board (sounding board memory.frets b)

  abbrev read : Rowing Words
  read =
      record {
        rows = x.rows;
        members = x.members;
        points = x.points;
        kept = x.tally.kept;
        voice = with_frets memory (remember memory.frets (sounding board memory.frets b));
      }

  abbrev rowed : ℕ → Rowing Words
  rowed running = keep_beat (words s) (record { bar = bar; track = track; voice = voice }) board x.tally.flat running b xs read

  rowed_count : (running : ℕ) → SameCount (rowed running).kept (kept_of (strings_on track y.parts) b y.tally.kept)
  unfolding rows_of
  rowed_count running = go b.head.kept
    where
      place : RowPlace
      place = record { bar = bar; track = track; voice = voice }

      counted : SameCount (keep_rows (words s) (rows_of place board x.tally.flat running b xs) read).kept
          (kept_with (heard one_note b.strings (strings_on track y.parts) 0 b.notes)
          (heard grace_of b.strings (strings_on track y.parts) 0 b.notes) y.tally.kept)
      counted =
          let n : length xs ≡ heard one_note b.strings board.strings.count 0 b.notes =
          count_all xs ∙ sum-chord one_note board memory.frets b seven in
          let g : length (graces xs) ≡ heard grace_of b.strings board.strings.count 0 b.notes =
          count_graces xs ∙ sum-chord grace_of board memory.frets b seven in
          let k = kept_count s place board x.tally.flat running b xs (graces xs) read in
          let same = same_with (length xs) (length (graces xs)) x.tally.kept y.tally.kept r.kept in
          rw (sym (r.strings track), sym n, sym g)
          record { rows = k.rows ∙ same.rows; members = k.members ∙ same.members }

      go : (t : Bool) → SameCount (pick t (keep_rows (words s) (rows_of place board x.tally.flat running b xs) read) read).kept
          (pick t (kept_with (heard one_note b.strings (strings_on track y.parts) 0 b.notes)
          (heard grace_of b.strings (strings_on track y.parts) 0 b.notes) y.tally.kept) y.tally.kept)
      go true = counted
      go false = r.kept

  rowed_frets : (running : ℕ) → length (rowed running).voice.frets ≡ 7
  unfolding voice_from
  rowed_frets running =
      go b.head.kept
      (rows_of (record { bar = bar; track = track; voice = voice }) board x.tally.flat running b xs)
    where
      go : (t : Bool) (rs : List RowIs) → length (pick t (keep_rows (words s) rs read) read).voice.frets ≡ 7
      go true rs =
          rw (keep_frets s (record { bar = bar; track = track; voice = voice }) board x.tally.flat 0 b rs read)
          (length-remember memory.frets (sounding board memory.frets b))
      go false rs = length-remember memory.frets (sounding board memory.frets b)

  beat_counted : Counted (add_beat (words s) bar track voice b x) (count_beat track b y)
  unfolding add_beat count_beat count_tally
  beat_counted =
      record {
        strings = λ i. strings_stay x.parts track voice (rowed _).voice (rowed_frets _) _ i ∙ r.strings i;
        kept = rowed_count _;
        text_room = rw r.text_room;
        point_room = rw r.point_room;
      }

-- ---- a file

abbrev counts : Relations (Heads Words) (Heads Words) (Staves Words) (Staves Words) (Walk Words) (Walk Words)
counts =
    record {
      headers = λ g n x y at. x ≡ y;
      tracks = λ g n x y at. x ≡ y;
      before = λ g n x y at. Counted x y;
      within = λ g n x y at. Counted x y;
    }

same_counted : (x y : Walk Words) → x ≡ y → Counted x y
same_counted x y e = rw e record { strings = λ i. refl; kept = record { rows = refl; members = refl }; text_room = refl; point_room = refl }

module _ (s u : List ℕ) (t : Lent) where
  counts_alike : Alike s counts (keeping (words u) (lent t)) (passing true (keeping (words u) (lent t)))
  unfolding enter_bar
  counts_alike =
      record {
        start = λ g at few l. refl;
        header = λ g b time h x y at n few l fits facts e. rw e;
        tracks = λ g x y at few e. rw e;
        track = λ g k v x y at n few l facts e. rw e;
        bars = λ g h h' v v' earlier at few e l f. same_counted _ _ (rw (e, f));
        enter = λ g b x y at few l r. record { strings = r.strings; kept = r.kept; text_room = r.text_room; point_room = r.point_room };
        beat = λ g b k voice v x y at n few l o w facts r. beat_counted u b k voice v facts.notes.seven x y r;
        leave = λ g b x y at few l r. r;
        tracks_later = λ g k x y at n w e. e;
        within_later = λ g b x y at n w r. r;
      }

-- ---- the two passes

-- what may be read of a file d, counted
abbrev pub count_pass : List ℕ → Lent → Res WordScore
count_pass d t = run (file (passing true (keeping (words (up_to LIMIT d)) (lent t)))) (up_to LIMIT d) 0

-- a pass that enters what another counted
pub record Enters (d : List ℕ) (t : Lent) (c : WordScore) (n : ℕ) : Type 0 where
  pub score : WordScore
  pub is : one_pass d t ≡ ok score n
  pub needs : needed_by c.song.counts c.bars.tally ≡ needed_by score.song.counts score.bars.tally

module _ (d : List ℕ) (bytes : Bytes d) (t : Lent) where
  abbrev seen : List ℕ
  seen = up_to LIMIT d

  both_count : Both (Agreed seen counts) (one_pass d t) (count_pass d t)
  both_count = (alike (upto_bytes LIMIT d bytes) (counts_alike seen seen t)).follows (omega arith)

  pub counted_stop : (x : Stop) → count_pass d t ≡ stopped x → one_pass d t ≡ stopped x
  counted_stop x e = go (one_pass d t) (rw e at both_count)
    where
      go : (o : Res WordScore) → Both (Agreed seen counts) o (stopped x) → o ≡ stopped x
      go (ok a n) r = absurd r
      go (stopped z) r = ap stopped r

  pub counted_end : (c : WordScore) (n : ℕ) → count_pass d t ≡ ok c n → Enters d t c n
  counted_end c n e = go (one_pass d t) refl (rw e at both_count)
    where
      go : (o : Res WordScore) → one_pass d t ≡ o → Both (Agreed seen counts) o (ok c n) → Enters d t c n
      go (stopped z) k r = absurd r
      go (ok y m) k r =
          record {
            score = y;
            is = k ∙ ap (ok y) r.0;
            needs = rw (sym r.1.song, r.1.bars.kept.rows, r.1.bars.kept.members, r.1.bars.text_room, r.1.bars.point_room);
          }
