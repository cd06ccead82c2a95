-- The parts of a file stand where it was read, one after another: those of the song, each header and track, and each beat of
-- each voice.
use Prim.Native.Nat.{ℕ, zero, suc, ◌+◌, ◌<◌}
use native.Mathlib.Omega.{arith}
use mathlib.Core.Path.{◌≡◌, refl}
use mathlib.Core.List.{List}
use Rattle.format.specs.declared.Counted.TheVariants as C
use Rattle.format.specs.Prog.{Prog, ret, bind, turns}
use Rattle.format.specs.Fields.{count}
use Rattle.format.specs.Passed.{Reads, Has}
use Rattle.format.proofs.Run.{ret_ok}
use Rattle.format.proofs.Standing.{somewhere, reads_parts, reads_ret}
use Rattle.model.specs.declared.Time.{Time}
use Rattle.song.specs.Version.{version}
use Rattle.song.specs.Info.{info, lyrics}
use Rattle.song.specs.Setup.{setup, channel_table, directions}
use Rattle.header.specs.declared.Header.{Header}
use Rattle.header.specs.Header.{header}
use Rattle.track.specs.declared.TrackHeader.{TrackHeader}
use Rattle.track.specs.Track.{track}
use Rattle.beat.specs.Beat.{BeatIs, beat}
use Rattle.score.specs.File.{Opening, opening, voices, Timed, Adding, Whole, one_header, headers, one_track, tracks}
use Rattle.score.specs.File.{one_beat, voice, bar_track, bar, bars, score, file}

-- k things stand one after another from a position to another, each P from where it stands to where the next one does
pub record InOrder (k : ℕ) (P : ℕ → ℕ → Type 1) (at n : ℕ) : Type 1 where
  pub place : ℕ → ℕ
  pub starts : place 0 ≡ at
  pub ends : place k ≡ n
  pub each : (i : ℕ) → i < k → P (place i) (place (i + 1))

-- what stands before the counts
pub record SongHas {B : Type 0} (s : List ℕ) (q : Prog B) (from : ℕ) (g : Opening) : Type 1 where
  pub version : Has s q from version
  pub info : Has s q from (info g.version)
  pub lyrics : Has s q from (lyrics g.version)
  pub setup : Has s q from (setup g.version)
  pub programs : Has s q from channel_table
  pub directions : Has s q from (directions g.version)

module _ {B : Type 0} (s : List ℕ) (q : Prog B) (from v : ℕ) where
  -- a header, whatever the time before it; a track; a beat
  abbrev pub HeaderAt : ℕ → ℕ → Type 1
  HeaderAt m n = (before : Time) × (h : Header) × Reads s q from (header v before) m h n

  abbrev pub TrackAt : List (List ℕ) → ℕ → ℕ → Type 1
  TrackAt programs m n = (t : TrackHeader) × Reads s q from (track v programs) m t n

  abbrev pub BeatAt : ℕ → ℕ → Type 1
  BeatAt m n = (x : BeatIs) × Reads s q from (beat v) m x n

  -- a voice: as many beats as it counts
  abbrev pub VoiceAt : ℕ → ℕ → Type 1
  VoiceAt m n = (beats : ℕ) × (k : ℕ) × Reads s q from (count C.Beats) m beats k × InOrder beats BeatAt k n

  -- a track in a bar: its voices
  abbrev pub VoicesAt : ℕ → ℕ → Type 1
  VoicesAt m n = (number : ℕ) × (k : ℕ) × Reads s q from (voices v) m number k × InOrder number VoiceAt k n

  -- a bar: so many tracks
  abbrev pub BarAt : ℕ → ℕ → ℕ → Type 1
  BarAt tracks m n = InOrder tracks VoicesAt m n

-- a whole file from a position to its end: the song, then headers, tracks and bars
pub record FileHas {B : Type 0} (s : List ℕ) (q : Prog B) (from : ℕ) (g : Opening) (at n : ℕ) : Type 1 where
  pub first : ℕ
  pub headed : ℕ
  pub staved : ℕ
  pub song : Reads s q from opening at g first
  pub parts : SongHas s q from g
  pub headers : InOrder g.counts.bars (HeaderAt s q from g.version) first headed
  pub tracks : InOrder g.counts.tracks (TrackAt s q from g.version g.programs) headed staved
  pub bars : InOrder g.counts.bars (BarAt s q from g.version g.counts.tracks) staved n

-- ---- turns, one after another
abbrev before : ℕ → (ℕ → ℕ) → ℕ → ℕ
before x f zero = x
before x f (suc i) = f i

one_more_lem : (P : ℕ → ℕ → Type 1) (k at m n : ℕ) → P at m → InOrder k P m n → InOrder (suc k) P at n
one_more_lem P k at m n p o = record { place = before at o.place; starts = refl; ends = o.ends; each = each }
  where
    each : (i : ℕ) → i < suc k → P (before at o.place i) (before at o.place (i + 1))
    each zero l = rw o.starts p
    each (suc i) l = let z : suc i + 1 ≡ suc (i + 1) = omega arith in rw z (o.each i (omega arith))

in_order_lem : {B S : Type 0} {s : List ℕ} {q : Prog B} {from : ℕ} (P : ℕ → ℕ → Type 1) (f : ℕ → S → Prog S) (k i : ℕ) (x : S)
    {y : S} {at n : ℕ} → ((j : ℕ) (st st' : S) (m m' : ℕ) → Reads s q from (f j st) m st' m' → P m m')
    → Reads s q from (turns k i f x) at y n → InOrder k P at n
unfolding turns
in_order_lem {s = s} P f zero i x {y = y} {at = at} {n = n} h w = record {
  place = λ _. at;
  starts = refl;
  ends = (ret_ok s at n y x w.ran).1;
  each = λ j l. absurd (omega arith);
}
in_order_lem P f (suc k) i x h w =
    reads_parts _ _ w (λ t m a w. one_more_lem P k _ m _ (h i x t _ m a) (in_order_lem P f k (i + 1) t h w))

module _ {B : Type 0} {s : List ℕ} {q : Prog B} {from at n : ℕ} where
  song_has : {g : Opening} → Reads s q from opening at g n → SongHas s q from g
  unfolding opening
  song_has {g} w = reads_parts _ _ w (λ v _ a w. reads_parts _ _ w (λ _ _ b w. reads_parts _ _ w (λ _ _ _ w.
      reads_parts _ _ w (λ _ _ y w. reads_parts _ _ w (λ _ _ c w. reads_parts _ _ w (λ _ _ d w.
      reads_parts _ _ w (λ _ _ f w. reads_parts _ _ w (λ _ _ _ w.
      let z = reads_ret _ w in
      let e : v ≡ g.version = λ i. (z i).version in
      record {
        version = somewhere a;
        info = somewhere (rw e at b);
        lyrics = somewhere (rw e at y);
        setup = somewhere (rw e at c);
        programs = somewhere d;
        directions = somewhere (rw e at f);
      }))))))))

  -- a field, and no more after it
  alone : {A C : Type 0} (p : Prog A) (f : A → C) {c : C} → Reads s q from (bind p (λ a. ret (f a))) at c n
      → (a : A) × Reads s q from p at a n
  alone p f {c} w = reads_parts p _ w (λ a m v w. (a, rw (ret_ok s m n c _ w.ran).1 at v))

module _ {B : Type 0} {s : List ℕ} {q : Prog B} {from at n : ℕ} {H T W : Type 0} (add : Adding H T W) where
  headers_has : (g : Opening) {y : Timed H} → Reads s q from (headers add g) at y n
      → InOrder g.counts.bars (HeaderAt s q from g.version) at n
  unfolding headers one_header
  headers_has g w = in_order_lem _ (one_header add g) _ 0 _ (λ _ st _ _ _ w. let a = alone _ _ w in (st.time, a.0, a.1)) w

  tracks_has : (g : Opening) (u : T) {y : T} → Reads s q from (tracks add g u) at y n
      → InOrder g.counts.tracks (TrackAt s q from g.version g.programs) at n
  unfolding tracks one_track
  tracks_has g u w = in_order_lem _ (one_track add g) _ 0 u (λ _ _ _ _ _ w. alone _ _ w) w

  voice_has : (v b t w : ℕ) (u : W) {y : W} → Reads s q from (voice add v b t w u) at y n → VoiceAt s q from v at n
  unfolding voice one_beat
  voice_has v b t w u r = reads_parts _ _ r (λ beats k a r.
      (beats, k, a, in_order_lem _ (one_beat add v b t w) beats 0 u (λ _ _ _ _ _ r. alone _ _ r) r))

module _ {B : Type 0} {s : List ℕ} {q : Prog B} {from at n : ℕ} {H T W : Type 0} (add : Adding H T W) where
  voices_has : (v b t : ℕ) (u : W) {y : W} → Reads s q from (bar_track add v b t u) at y n → VoicesAt s q from v at n
  unfolding bar_track
  voices_has v b t u r = reads_parts _ _ r (λ number k a r.
      (number, k, a, in_order_lem _ (voice add v b t) number 0 u (λ w st _ _ _ r. voice_has add v b t w st r) r))

module _ {B : Type 0} {s : List ℕ} {q : Prog B} {from at n : ℕ} {H T W : Type 0} (add : Adding H T W) where
  bar_has : (v tracks b : ℕ) (u : W) {y : W} → Reads s q from (bar add v tracks b u) at y n → BarAt s q from v tracks at n
  unfolding bar
  bar_has v tracks b u r = in_order_lem _ (bar_track add v b) tracks 0 _ (λ t st _ _ _ r. voices_has add v b t st r) r

module _ {B : Type 0} {s : List ℕ} {q : Prog B} {from at n : ℕ} {H T W : Type 0} (add : Adding H T W) where
  bars_has : (g : Opening) (u : W) {y : W} → Reads s q from (bars add g u) at y n
      → InOrder g.counts.bars (BarAt s q from g.version g.counts.tracks) at n
  unfolding bars
  bars_has g u r =
      in_order_lem _ (bar add g.version g.counts.tracks) _ 0 u (λ b st _ _ _ r. bar_has add _ _ b st r) r

pub file_has : {B : Type 0} {s : List ℕ} {q : Prog B} {from at n : ℕ} {H T W : Type 0} (add : Adding H T W) {x : Whole T W}
    → Reads s q from (file add) at x n → FileHas s q from x.song at n
unfolding file score
file_has {s = s} {q = q} {from = from} {at = at} {n = n} add {x = x} w =
    reads_parts _ _ w (λ g first a w. reads_parts _ _ w (λ h headed b w. reads_parts _ _ w (λ t staved c w.
    reads_parts _ _ w (λ y m d w.
    let z = ret_ok s m n x _ w.ran in
    let e : g ≡ x.song = λ i. (z.0 i).song in
    let all : FileHas s q from g at m = record {
      first = first;
      headed = headed;
      staved = staved;
      song = a;
      parts = song_has a;
      headers = headers_has add g b;
      tracks = tracks_has add g _ c;
      bars = bars_has add g _ d;
    } in
    rw (e, z.1) at all))))
