-- One file added to two states: where every step keeps them alike, so does the whole file.
use Prim.Native.Nat.{ℕ, zero, suc, ◌+◌, ◌≤◌, ◌<◌}
use native.Mathlib.Omega.{arith}
use mathlib.Core.Path.{◌≡◌, refl, sym}
use mathlib.Core.List.{List}
use lib.ListN.{length}
use Rattle.format.specs.declared.Counted.TheVariants as C
use Rattle.format.specs.Prog.{Prog, ret, Res, ok, stopped, run, bind, turns}
use Rattle.format.specs.Yields.{Yields, Onward, Bytes}
use Rattle.format.proofs.Run.{and_then, run_bind, run_within}
use Rattle.format.proofs.Yields.{yield_ret, yield_after, yield_bind, yield_le}
use Rattle.model.specs.declared.Time.{Time}
use Rattle.header.specs.declared.Header.{Header}
use Rattle.track.specs.declared.TrackHeader.{TrackHeader}
use Rattle.beat.specs.Beat.{BeatIs}
use Rattle.score.specs.File.{Opening, opening, voices, Timed, Adding, Whole, one_header, headers, one_track, tracks}
use Rattle.score.specs.File.{one_beat, voice, bar_track, bar, bars, score, file}
use Rattle.score.proofs.Facts.{BeatFacts, TimeFits, HeaderFacts, TrackFacts, CountsFacts}
use Rattle.score.proofs.Facts.{beat_facts, common_time_lem, header_facts, track_facts, counts_facts, count_facts}

-- ---- two programs at a position of the file s

-- both stop, and for the same reason; or both end, at the same position, with results that R relates
abbrev pub Both : {A B : Type 0} → (A → B → ℕ → Type 0) → Res A → Res B → Type 0
Both R (ok a n) (ok b m) = (n ≡ m) × R a b n
Both R (ok a n) (stopped y) = ⊥
Both R (stopped x) (ok b m) = ⊥
Both R (stopped x) (stopped y) = x ≡ y

-- a record and no bare function, so that a rule reads the file, the programs and the position off it
module _ {A B : Type 0} (s : List ℕ) (R : A → B → ℕ → Type 0) where
  pub record Follows (p : Prog A) (q : Prog B) (at : ℕ) : Type 0 where
    pub follows : at ≤ length s → Both R (run p s at) (run q s at)

module _ {A B : Type 0} {s : List ℕ} {at : ℕ} {R : A → B → ℕ → Type 0} where
  pub f_ret : {a : A} {b : B} → R a b at → Follows s R (ret a) (ret b) at
  unfolding run
  f_ret r = record { follows = λ _. (refl, r) }

  pub f_less : {Q : A → B → ℕ → Type 0} {p : Prog A} {q : Prog B}
      → Follows s Q p q at → ((a : A) (b : B) (n : ℕ) → Q a b n → R a b n) → Follows s R p q at
  f_less {Q} {p} {q} h k = record { follows = λ l. go (run p s at) (run q s at) (h.follows l) }
    where
      go : (x : Res A) (y : Res B) → Both Q x y → Both R x y
      go (ok a n) (ok b m) r = (r.0, k a b n r.1)
      go (ok a n) (stopped y) r = r
      go (stopped x) (ok b m) r = r
      go (stopped x) (stopped y) r = r

  pub f_bind : {C D : Type 0} {Q : C → D → ℕ → Type 0} {p : Prog A} {q : Prog B} (f : A → Prog C) (g : B → Prog D)
      → Follows s R p q at → ((a : A) (b : B) (m : ℕ) → Onward s at m → R a b m → Follows s Q (f a) (g b) m)
      → Follows s Q (bind p f) (bind q g) at
  f_bind {C} {D} {Q} {p} {q} f g h k =
      record {
        follows = λ l. rw (run_bind p f s at, run_bind q g s at) (go l (run p s at) (run q s at) refl (h.follows l));
      }
    where
      go : at ≤ length s → (x : Res A) (y : Res B) → run p s at ≡ x → Both R x y
          → Both Q (and_then x (λ a m. run (f a) s m)) (and_then y (λ b m. run (g b) s m))
      go l (ok a m) (ok b n) d r =
          let w = run_within p s at m a l d in rw (sym r.0) ((k a b m w r.1).follows w.1)
      go l (ok a m) (stopped y) d r = absurd r
      go l (stopped x) (ok b n) d r = absurd r
      go l (stopped x) (stopped y) d r = r

-- the same program on both sides, with what it hands on
pub f_same : {A : Type 0} {s : List ℕ} {at : ℕ} {p : Prog A} {Q : A → ℕ → Type 0}
    → Yields s p at Q → Follows s (λ a b n. (a ≡ b) × Q a n) p p at
f_same {A} {s} {at} {p} {Q} h = record { follows = λ l. go (run p s at) (h.yields l) }
  where
    go : (x : Res A) → ((a : A) (n : ℕ) → x ≡ ok a n → Q a n) → Both (λ a b n. (a ≡ b) × Q a n) x x
    go (ok a n) k = (refl, (refl, k a n refl))
    go (stopped x) k = refl

pub f_then : {A C D : Type 0} {s : List ℕ} {at : ℕ} {p : Prog A} {Q : A → ℕ → Type 0} {R : C → D → ℕ → Type 0}
    (f : A → Prog C) (g : A → Prog D)
    → Yields s p at Q → ((a : A) (m : ℕ) → Onward s at m → Q a m → Follows s R (f a) (g a) m)
    → Follows s R (bind p f) (bind p g) at
f_then f g h k = f_bind f g (f_same h) (λ a b m w r. rw (sym r.0) (k a m w r.1))

-- turns up to number `end`, with what holds before each of them
module _ {A B : Type 0} {s : List ℕ} (R : ℕ → A → B → ℕ → Type 0) (f : ℕ → A → Prog A) (g : ℕ → B → Prog B) (end : ℕ)
    (turn : (i : ℕ) (x : A) (y : B) (at : ℕ) → i < end → R i x y at → Follows s (R (i + 1)) (f i x) (g i y) at) where
  pub f_turns : (k i : ℕ) (x : A) (y : B) (at : ℕ) → i + k ≡ end → R i x y at
      → Follows s (R end) (turns k i f x) (turns k i g y) at
  unfolding turns
  f_turns zero i x y at e r = let d : i ≡ end = omega arith in f_ret (rw d at r)
  f_turns (suc k) i x y at e r =
      f_bind _ _ (turn i x y at (omega arith) r) (λ a b m _ q. f_turns k (i + 1) a b m (omega arith) q)

-- ---- two states of a file

-- How they are related at a position: after so many headers, after so many tracks, before a bar is entered, and in it
pub record Relations (H H' T T' W W' : Type 0) : Type 1 where
  pub headers : Opening → ℕ → H → H' → ℕ → Type 0
  pub tracks : Opening → ℕ → T → T' → ℕ → Type 0
  pub before : Opening → ℕ → W → W' → ℕ → Type 0
  pub within : Opening → ℕ → W → W' → ℕ → Type 0

module _ {H H' T T' W W' : Type 0} (s : List ℕ) (R : Relations H H' T T' W W') where
  -- every step keeps the states related
  pub record Alike (A : Adding H T W) (B : Adding H' T' W') : Type 0 where
    pub start : (g : Opening) (at : ℕ) → CountsFacts g.counts → at ≤ length s
        → R.headers g 0 (A.headers g) (B.headers g) at
    pub header : (g : Opening) (b : ℕ) (time : Time) (h : Header) (x : H) (y : H') (at n : ℕ) → CountsFacts g.counts
        → b < g.counts.bars → TimeFits time → HeaderFacts s at h n → R.headers g b x y at
        → R.headers g (b + 1) (A.add_header g b time h x) (B.add_header g b time h y) n
    pub tracks : (g : Opening) (x : H) (y : H') (at : ℕ) → CountsFacts g.counts
        → R.headers g g.counts.bars x y at → R.tracks g 0 (A.tracks x) (B.tracks y) at
    pub track : (g : Opening) (t : ℕ) (u : TrackHeader) (x : T) (y : T') (at n : ℕ) → CountsFacts g.counts
        → t < g.counts.tracks → TrackFacts s at u n → R.tracks g t x y at
        → R.tracks g (t + 1) (A.add_track t u x) (B.add_track t u y) n
    pub bars : (g : Opening) (h : H) (h' : H') (t : T) (t' : T') (earlier at : ℕ) → CountsFacts g.counts
        → R.headers g g.counts.bars h h' earlier → earlier ≤ at → R.tracks g g.counts.tracks t t' at
        → R.before g 0 (A.bars h t) (B.bars h' t') at
    pub enter : (g : Opening) (b : ℕ) (x : W) (y : W') (at : ℕ) → CountsFacts g.counts
        → b < g.counts.bars → R.before g b x y at → R.within g b (A.enter_bar b x) (B.enter_bar b y) at
    pub beat : (g : Opening) (b t voice : ℕ) (u : BeatIs) (x : W) (y : W') (at n : ℕ) → CountsFacts g.counts
        → b < g.counts.bars → t < g.counts.tracks → voice < 2 → BeatFacts s at u n → R.within g b x y at
        → R.within g b (A.add_beat b t voice u x) (B.add_beat b t voice u y) n
    pub leave : (g : Opening) (b : ℕ) (x : W) (y : W') (at : ℕ) → CountsFacts g.counts
        → b < g.counts.bars → R.within g b x y at → R.before g (b + 1) x y at
    -- reading on changes nothing: counts stand between the beats, and all bars after the tracks
    pub tracks_later : (g : Opening) (t : ℕ) (x : T) (y : T') (at n : ℕ) → Onward s at n
        → R.tracks g t x y at → R.tracks g t x y n
    pub within_later : (g : Opening) (b : ℕ) (x : W) (y : W') (at n : ℕ) → Onward s at n
        → R.within g b x y at → R.within g b x y n

  -- what is then known of two files that were read to their ends
  pub record Agreed (x : Whole T W) (y : Whole T' W') (n : ℕ) : Type 0 where
    pub song : x.song ≡ y.song
    pub ends : n ≤ length s
    pub counts : CountsFacts x.song.counts
    pub tracks : R.tracks x.song x.song.counts.tracks x.tracks y.tracks n
    pub bars : R.before x.song x.song.counts.bars x.bars y.bars n

-- ---- what is the same on both sides
song_facts : (s : List ℕ) (at : ℕ) → Yields s opening at (λ g _. CountsFacts g.counts)
unfolding opening
song_facts s at =
    yield_after _ _ (λ _ _ _. yield_after _ _ (λ _ _ _. yield_after _ _ (λ _ _ _. yield_after _ _ (λ _ _ _.
    yield_after _ _ (λ _ _ _. yield_after _ _ (λ _ _ _. yield_after _ _ (λ _ m _.
    yield_bind _ (counts_facts s m) (λ _ _ _ h. yield_ret h))))))))

voices_facts : (s : List ℕ) (v at : ℕ) → Yields s (voices v) at (λ n _. n ≤ 2)
unfolding voices
voices_facts s v at =
    yield_le _ _ (λ _. yield_after _ _ (λ _ _ _. yield_ret (omega arith))) (λ _. yield_ret (omega arith))

-- ---- the skeleton, step by step
module _ {H H' T T' W W' : Type 0} {s : List ℕ} {R : Relations H H' T T' W W'} {A : Adding H T W} {B : Adding H' T' W'}
    (bytes : Bytes s) (step : Alike s R A B) where
  module _ (g : Opening) (few : CountsFacts g.counts) where
    -- beside the states goes the time, the same on both sides
    record OnTime (b : ℕ) (x : Timed H) (y : Timed H') (at : ℕ) : Type 0 where
      same : x.time ≡ y.time
      fits : TimeFits x.time
      states : R.headers g b x.state y.state at

    f_header : (b : ℕ) (x : Timed H) (y : Timed H') (at : ℕ) → b < g.counts.bars → OnTime b x y at
        → Follows s (OnTime (b + 1)) (one_header A g b x) (one_header B g b y) at
    unfolding one_header
    f_header b x y at l r =
        rw (sym r.same) (f_then _ _ (header_facts s bytes g.version x.time r.fits at) (λ h n _ k.
        f_ret (record {
          same = refl;
          fits = k.time;
          states = step.header g b x.time h _ _ at n few l r.fits k r.states;
        })))

    f_headers : (at : ℕ) → at ≤ length s → Follows s (OnTime g.counts.bars) (headers A g) (headers B g) at
    unfolding headers
    f_headers at l =
        f_turns OnTime _ _ _ f_header _ 0 _ _ at (omega arith)
        (record { same = refl; fits = common_time_lem; states = step.start g at few l })

    f_track : (t : ℕ) (x : T) (y : T') (at : ℕ) → t < g.counts.tracks → R.tracks g t x y at
        → Follows s (R.tracks g (t + 1)) (one_track A g t x) (one_track B g t y) at
    unfolding one_track
    f_track t x y at l r =
        f_then _ _ (track_facts s g.version g.programs at) (λ u n _ k.
        f_ret (step.track g t u x y at n few l k r))

    f_tracks : (x : T) (y : T') (at : ℕ) → R.tracks g 0 x y at
        → Follows s (R.tracks g g.counts.tracks) (tracks A g x) (tracks B g y) at
    unfolding tracks
    f_tracks x y at r = f_turns (R.tracks g) _ _ _ f_track _ 0 x y at (omega arith) r

    module _ (b : ℕ) (inside : b < g.counts.bars) where
      f_beat : (t w : ℕ) → t < g.counts.tracks → w < 2 → (x : W) (y : W') (at i : ℕ) → R.within g b x y at
          → Follows s (R.within g b) (one_beat A g.version b t w i x) (one_beat B g.version b t w i y) at
      unfolding one_beat
      f_beat t w l o x y at i r =
          f_then _ _ (beat_facts s g.version at) (λ u n _ k.
          f_ret (step.beat g b t w u x y at n few inside l o k r))

      f_voice : (t w : ℕ) → t < g.counts.tracks → w < 2 → (x : W) (y : W') (at : ℕ) → R.within g b x y at
          → Follows s (R.within g b) (voice A g.version b t w x) (voice B g.version b t w y) at
      unfolding voice
      f_voice t w l o x y at r =
          f_then _ _ (count_facts s C.Beats at) (λ n m p _.
          f_turns (λ _. R.within g b) _ _ n (λ i x y at _ q. f_beat t w l o x y at i q) n 0 _ _ m (omega arith)
          (step.within_later g b x y at m p r))

      f_bar_track : (t : ℕ) (x : W) (y : W') (at : ℕ) → t < g.counts.tracks → R.within g b x y at
          → Follows s (R.within g b) (bar_track A g.version b t x) (bar_track B g.version b t y) at
      unfolding bar_track
      f_bar_track t x y at l r =
          f_then _ _ (voices_facts s g.version at) (λ n m p two.
          f_turns (λ _. R.within g b) _ _ n (λ w x y at o q. f_voice t w l (omega arith) x y at q) n 0 _ _ m
          (omega arith)
          (step.within_later g b x y at m p r))

      f_bar : (x : W) (y : W') (at : ℕ) → R.before g b x y at
          → Follows s (R.before g (b + 1))
          (bar A g.version g.counts.tracks b x) (bar B g.version g.counts.tracks b y) at
      unfolding bar
      f_bar x y at r =
          f_less
          (f_turns (λ _. R.within g b) _ _ _ f_bar_track _ 0 _ _ at (omega arith) (step.enter g b x y at few inside r))
          (λ x y n q. step.leave g b x y n few inside q)

    f_bars : (x : W) (y : W') (at : ℕ) → R.before g 0 x y at
        → Follows s (R.before g g.counts.bars) (bars A g x) (bars B g y) at
    unfolding bars
    f_bars x y at r = f_turns (R.before g) _ _ _ (λ b x y at l q. f_bar b l x y at q) _ 0 x y at (omega arith) r

    f_score : (at : ℕ) → at ≤ length s → Follows s (Agreed s R) (score A g) (score B g) at
    unfolding score
    f_score at l =
        f_bind _ _ (f_headers at l) (λ h h' a _ o.
        f_bind _ _ (f_tracks _ _ a (step.tracks g _ _ a few o.states)) (λ t t' b p q.
        f_bind _ _ (f_bars _ _ b (step.bars g _ _ _ _ a b few o.states p.0 q)) (λ w w' n e r.
        f_ret (record {
          song = refl;
          ends = e.1;
          counts = few;
          tracks = step.tracks_later g _ t t' b n e q;
          bars = r;
        }))))

  pub alike : Follows s (Agreed s R) (file A) (file B) 0
  unfolding file
  alike = f_then _ _ (song_facts s 0) (λ g at w few. f_score g few at w.1)
