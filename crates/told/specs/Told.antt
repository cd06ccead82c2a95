-- What a file tells: its headers, tracks and beats in the order read, and what is made of them.
use Rattle.std.specs.Prelude.{ℕ, ◌+◌, ◌<◌, ◌≡◌, List, [], ◌∷◌, ◌++◌}
use Rattle.format.specs.Prog.{Prog}
use Rattle.model.specs.declared.Time.{Time}
use Rattle.header.specs.declared.Header.{Header}
use Rattle.track.specs.declared.TrackHeader.{TrackHeader}
use Rattle.beat.specs.Beat.{BeatIs}
use Rattle.score.specs.File.{Opening, Adding, Whole, file}

-- the header of a bar, with the time before it
pub record HeadTold : Type 0 where
  pub bar : ℕ
  pub before : Time
  pub header : Header

pub record TrackTold : Type 0 where
  pub number : ℕ
  pub track : TrackHeader

-- a beat of a voice of a track, in a bar
pub record BeatTold : Type 0 where
  pub bar : ℕ
  pub track : ℕ
  pub voice : ℕ
  pub beat : BeatIs

-- a bar is entered, then its beats come
pub data Event : Type 0 where
  enters : ℕ → Event
  plays : BeatTold → Event

pub record TracksTold : Type 0 where
  pub heads : List HeadTold
  pub tracks : List TrackTold

pub record EventsTold : Type 0 where
  pub heads : List HeadTold
  pub staves : TracksTold
  pub events : List Event

abbrev pub Told : Type 0
Told = Whole TracksTold EventsTold

-- nothing is made of a file: all that is read is noted in its order
abbrev pub noting : Adding (List HeadTold) TracksTold EventsTold
noting =
    record {
      headers = λ g. [];
      add_header = λ g bar before h hs. hs ++ (record { bar = bar; before = before; header = h } ∷ []);
      tracks = λ hs. record { heads = hs; tracks = [] };
      add_track = λ n t u. record { heads = u.heads; tracks = u.tracks ++ (record { number = n; track = t } ∷ []) };
      bars = λ hs u. record { heads = hs; staves = u; events = [] };
      enter_bar = λ bar w. record { heads = w.heads; staves = w.staves; events = w.events ++ (enters bar ∷ []) };
      add_beat = λ bar track voice b w. record {
        heads = w.heads;
        staves = w.staves;
        events = w.events ++ (plays (record { bar = bar; track = track; voice = voice; beat = b }) ∷ []);
      };
    }

unfoldable pub told : Prog Told
told = file noting

-- ---- what is made of it: what was told is added, one after another
module _ {H T W : Type 0} (add : Adding H T W) where
  abbrev pub add_heads : Opening → List HeadTold → H → H
  add_heads g [] x = x
  add_heads g (h ∷ hs) x = add_heads g hs (add.add_header g h.bar h.before h.header x)

  abbrev pub add_tracks : List TrackTold → T → T
  add_tracks [] x = x
  add_tracks (t ∷ ts) x = add_tracks ts (add.add_track t.number t.track x)

  abbrev pub add_event : Event → W → W
  add_event (enters bar) x = add.enter_bar bar x
  add_event (plays b) x = add.add_beat b.bar b.track b.voice b.beat x

  abbrev pub add_events : List Event → W → W
  add_events [] x = x
  add_events (e ∷ es) x = add_events es (add_event e x)

  abbrev pub heads_made : Opening → List HeadTold → H
  heads_made g hs = add_heads g hs (add.headers g)

  abbrev pub tracks_made : Opening → TracksTold → T
  tracks_made g u = add_tracks u.tracks (add.tracks (heads_made g u.heads))

  abbrev pub events_made : Opening → EventsTold → W
  events_made g w = add_events w.events (add.bars (heads_made g w.heads) (tracks_made g w.staves))

  unfoldable pub made : Told → Whole T W
  made x = record { song = x.song; tracks = tracks_made x.song x.tracks; bars = events_made x.song x.bars }

-- ---- headers are told in the order of their bars, from number n on
abbrev pub Numbered : ℕ → List HeadTold → Type 0
Numbered n [] = Unit {0}
Numbered n (h ∷ hs) = (h.bar ≡ n) × Numbered (n + 1) hs

-- ---- where a file's events stand: bars from 0 on, voices of tracks that there are
abbrev pub Placed : Opening → Event → Type 0
Placed g (enters bar) = bar < g.counts.bars
Placed g (plays b) = (b.bar < g.counts.bars) × (b.track < g.counts.tracks) × (b.voice < 2)
