-- A file that is read begins with what is shown of it: its score has the song that stands before the bar headers, and as many bars and
-- tracks as the counts there say.
use Prim.Native.Nat.{ℕ, zero, suc, ◌+◌, ◌-◌, ◌≤◌}
use native.Mathlib.Omega.{arith}
use mathlib.Core.Path.{◌≡◌, refl, ◌∙◌}
use mathlib.Core.List.{List, [], ◌∷◌}
use lib.ListN.{length, length-append}
use Rattle.model.specs.declared.Bar.{Bar}
use Rattle.model.specs.declared.Time.{Time}
use Rattle.header.specs.declared.Header.{Header}
use Rattle.track.specs.declared.TrackHeader.{TrackHeader}
use Rattle.beat.specs.Beat.{BeatIs}
use Rattle.format.specs.Text.{pick}
use Rattle.format.specs.Prog.{Prog, ok, run, turns}
use Rattle.format.specs.Yields.{Yields}
use Rattle.format.proofs.Yields.{yield_ret, yield_less, yield_bind, yield_after, yield_turns}
use Rattle.tables.proofs.Laws.{length-change}
use Rattle.score.specs.Bars.{goes_on, bar_of}
use Rattle.score.specs.File.{Opening, opening, one_header, headers, one_track, tracks, one_beat, voice, bar_track, bar, bars, score, file}
use Rattle.score.specs.Page.{Heads, Staves, Walk, add_header, add_track, enter_bar, add_beat, no_bars, no_tracks, no_beats, keeping, track_entry}
use Rattle.score.specs.Score.{Lists, lists, none, scored}
use Rattle.score.specs.Reading.{Score}
use Rattle.refine.proofs.Shown.{pick_both}

-- each turn adds one
turns_add : {S : Type 0} {s : List ℕ} (size : S → ℕ) (f : ℕ → S → Prog S)
    → ((i : ℕ) (x : S) (at : ℕ) → Yields s (f i x) at (λ y _. size y ≡ size x + 1))
    → (k i : ℕ) (x : S) (at : ℕ) → Yields s (turns k i f x) at (λ y _. size y ≡ size x + k)
unfolding turns
turns_add size f h zero i x at = yield_ret (omega arith)
turns_add size f h (suc k) i x at =
    yield_bind _ (h i x at) (λ y m _ one. yield_less (turns_add size f h k (i + 1) y m) (λ z n more. omega (arith, one, more)))

module _ (g : Opening) where
  header_adds : (b : ℕ) (time : Time) (h : Header) (w : Heads Lists)
      → length (add_header lists g b time h w).bars ≡ length w.bars + 1
  unfolding add_header
  header_adds b time h w =
      let gone : List Bar = pick (goes_on w.before h) (lists.go_on (b - 1) w.bars) w.bars in
      let same : length gone ≡ length w.bars =
      pick_both (λ bs. length bs ≡ length w.bars) (goes_on w.before h) (lists.go_on (b - 1) w.bars) w.bars
      (length-change _ w.bars (b - 1)) refl in
      omega (arith, same, length-append gone (bar_of g.directions b time h w.before ∷ []))

  headers_number : {s : List ℕ} (at : ℕ)
      → Yields s (headers (keeping lists none) g) at (λ w _. length w.state.bars ≡ g.counts.bars)
  unfolding headers one_header no_bars
  headers_number at =
      yield_less
      (turns_add (λ w. length w.state.bars) _
      (λ b w m. yield_after _ _ (λ h n _. yield_ret (header_adds b w.time h w.state)))
      g.counts.bars 0 _ at)
      (λ w n e. omega (arith, e))

  track_adds : (i : ℕ) (t : TrackHeader) (u : Staves Lists) → length (add_track lists i t u).tracks ≡ length u.tracks + 1
  unfolding add_track
  track_adds i t u = omega (arith, length-append u.tracks (track_entry t ∷ []))

  tracks_number : {s : List ℕ} (u : Staves Lists) (at : ℕ)
      → Yields s (tracks (keeping lists none) g u) at (λ w _. length w.tracks ≡ length u.tracks + g.counts.tracks)
  unfolding tracks one_track
  tracks_number u at =
      turns_add (λ w. length w.tracks) _
      (λ i w m. yield_after _ _ (λ t n _. yield_ret (track_adds i t w)))
      g.counts.tracks 0 u at

  enter_keeps : (b : ℕ) (w : Walk Lists) → length (enter_bar lists b w).bars ≡ length w.bars
  unfolding enter_bar
  enter_keeps b w = refl

  beat_keeps : (b t v : ℕ) (x : BeatIs) (w : Walk Lists) → length (add_beat lists b t v x w).bars ≡ length w.bars
  unfolding add_beat
  beat_keeps b t v x w = length-change _ w.bars b

  abbrev As : List Bar → Walk Lists → ℕ → Type 0
  As bs y n = length y.bars ≡ length bs

  -- beats change bars and add none
  bars_keep : {s : List ℕ} (w : Walk Lists) (at : ℕ)
      → Yields s (bars (keeping lists none) g w) at (λ y _. length y.bars ≡ length w.bars)
  unfolding bars bar bar_track voice one_beat
  bars_keep w at =
      yield_turns (As w.bars) _ (λ b y m f. yield_turns (As w.bars) _ (λ t y m f.
      yield_after _ _ (λ vs m _. yield_turns (As w.bars) _ (λ i y m f.
      yield_after _ _ (λ k m _. yield_turns (As w.bars) _ (λ j y m f.
      yield_after _ _ (λ x n _. yield_ret (beat_keeps b t i x y ∙ f)))
      k 0 y f))
      vs 0 y f))
      g.counts.tracks 0 _ (enter_keeps b y ∙ f))
      g.counts.bars 0 w refl

-- what stands before the bar headers of a file of n bytes that was read
pub record Opens (s : List ℕ) (x : Score) (n : ℕ) : Type 0 where
  pub end : ℕ
  pub opens : run opening s 0 ≡ ok x.song end
  pub within : end ≤ n
  pub bars : length x.bars.bars ≡ x.song.counts.bars
  pub tracks : length x.tracks.tracks ≡ x.song.counts.tracks

file_opens : (s : List ℕ) → Yields s scored 0 (λ x n. Opens s x n)
unfolding scored file score no_tracks no_beats
file_opens s =
    let song : Yields s opening 0 (λ g m. run opening s 0 ≡ ok g m) = record { yields = λ l g m e. e } in
    yield_bind _ song (λ g m _ o.
    yield_bind _ (headers_number g m) (λ h a p b.
    yield_bind _ (tracks_number g _ a) (λ u c q t.
    yield_bind _ (bars_keep g _ c) (λ w n r k.
    yield_ret (record { end = m; opens = o; within = omega (arith, p.0, q.0, r.0); bars = k ∙ b; tracks = omega (arith, t) })))))

pub opens_first : (s : List ℕ) (x : Score) (n : ℕ) → run scored s 0 ≡ ok x n → Opens s x n
opens_first s x n e = (file_opens s).yields (omega arith) x n e
