-- The skeleton of a whole file, to the last voice of the last bar, generic in the states that headers, tracks and beats are
-- added to.
use Rattle.std.specs.Prelude.{ℕ, Bool, List, Option}
use Rattle.model.specs.declared.Time.{Time}
use Rattle.format.specs.declared.Counted.TheVariants as C
use Rattle.format.specs.Prog.{Prog, ret, bind, when_le, turns}
use Rattle.format.specs.Fields.{skip, count}
use Rattle.song.specs.declared.info.Info.{Info}
use Rattle.model.specs.declared.Lyrics.{Lyrics}
use Rattle.header.specs.declared.Counts.{Counts}
use Rattle.header.specs.declared.Header.{Header}
use Rattle.track.specs.declared.TrackHeader.{TrackHeader}
use Rattle.song.specs.Version.{version}
use Rattle.song.specs.Info.{info, triplet_feel, lyrics}
use Rattle.song.specs.Setup.{setup, channel_table, directions}
use Rattle.header.specs.Header.{counts, common_time, header}
use Rattle.track.specs.Track.{track}
use Rattle.beat.specs.Beat.{BeatIs, beat}

-- what stands before the bar headers
pub record Opening : Type 0 where
  pub version : ℕ
  pub info : Info
  pub swing : Bool
  pub lyrics : Lyrics
  pub tempo : Option ℕ
  pub programs : List (List ℕ)
  pub directions : List ℕ
  pub counts : Counts

unfoldable pub opening : Prog Opening
opening =
    bind version (λ v.
    bind (info v) (λ i.
    bind (triplet_feel v) (λ w.
    bind (lyrics v) (λ l.
    bind (setup v) (λ t.
    bind channel_table (λ ps.
    bind (directions v) (λ ds.
    bind counts (λ c.
    ret (record { version = v; info = i; swing = w; lyrics = l; tempo = t; programs = ps; directions = ds; counts = c })))))))))

-- one voice before v500, two from it
unfoldable pub voices : ℕ → Prog ℕ
voices v = when_le 500 v (bind (skip 1) (λ _. ret 2)) (ret 1)

-- a header hands its time on to the next
pub record Timed (H : Type 0) : Type 0 where
  pub time : Time
  pub state : H

-- what headers, tracks and beats are added to: a header by the time before it and its bar; a track by its number; a beat by its
-- bar, track and voice. A bar is entered before its beats
pub record Adding (H T W : Type 0) : Type 0 where
  pub headers : Opening → H
  pub add_header : Opening → ℕ → Time → Header → H → H
  pub tracks : H → T
  pub add_track : ℕ → TrackHeader → T → T
  pub bars : H → T → W
  pub enter_bar : ℕ → W → W
  pub add_beat : ℕ → ℕ → ℕ → BeatIs → W → W

-- a file that was read to its end
pub record Whole (T W : Type 0) : Type 0 where
  pub song : Opening
  pub tracks : T
  pub bars : W

module _ {H T W : Type 0} (add : Adding H T W) where
  unfoldable pub one_header : Opening → ℕ → Timed H → Prog (Timed H)
  one_header g b w =
      bind (header g.version w.time) (λ h. ret (record { time = h.time; state = add.add_header g b w.time h w.state }))

  unfoldable pub headers : Opening → Prog (Timed H)
  headers g = turns g.counts.bars 0 (one_header g) (record { time = common_time; state = add.headers g })

  unfoldable pub one_track : Opening → ℕ → T → Prog T
  one_track g t u = bind (track g.version g.programs) (λ x. ret (add.add_track t x u))

  unfoldable pub tracks : Opening → T → Prog T
  tracks g u = turns g.counts.tracks 0 (one_track g) u

  unfoldable pub one_beat : (v b t w : ℕ) → ℕ → W → Prog W
  one_beat v b t w i u = bind (beat v) (λ x. ret (add.add_beat b t w x u))

  unfoldable pub voice : (v b t w : ℕ) → W → Prog W
  voice v b t w u = bind (count C.Beats) (λ n. turns n 0 (one_beat v b t w) u)

  unfoldable pub bar_track : (v b t : ℕ) → W → Prog W
  bar_track v b t u = bind (voices v) (λ n. turns n 0 (voice v b t) u)

  unfoldable pub bar : (v tracks b : ℕ) → W → Prog W
  bar v tracks b u = turns tracks 0 (bar_track v b) (add.enter_bar b u)

  unfoldable pub bars : Opening → W → Prog W
  bars g u = turns g.counts.bars 0 (bar g.version g.counts.tracks) u

  unfoldable pub score : Opening → Prog (Whole T W)
  score g =
      bind (headers g) (λ h.
      bind (tracks g (add.tracks h.state)) (λ t.
      bind (bars g (add.bars h.state t)) (λ w.
      ret (record { song = g; tracks = t; bars = w }))))

  unfoldable pub file : Prog (Whole T W)
  file = bind opening score
