-- Every reading of a file is made of what the file tells.
use Prim.Native.Nat.{ℕ, ◌+◌}
use native.Mathlib.Omega.{arith}
use mathlib.Core.Path.{◌≡◌, refl, sym, ap, ◌∙◌}
use mathlib.Core.List.{List, [], ◌∷◌, ◌++◌}
use lib.ListN.{length, length-append}
use Rattle.format.specs.Prog.{Res, ok, stopped, run}
use Rattle.format.specs.Yields.{Bytes}
use Rattle.refine.proofs.All.{All, all_more}
use Rattle.score.specs.File.{Opening, Adding, Whole, file}
use Rattle.score.proofs.Follow.{Both, Relations, Alike, Agreed, alike}
use Rattle.told.specs.Told.{HeadTold, TrackTold, Event, enters, plays, TracksTold, EventsTold, Told, noting, told}
use Rattle.told.specs.Told.{add_heads, add_tracks, add_event, add_events, heads_made, tracks_made, events_made, made}
use Rattle.told.specs.Told.{Numbered, Placed}

numbered_more : (n : ℕ) (hs : List HeadTold) (h : HeadTold) → Numbered n hs → h.bar ≡ n + length hs
    → Numbered n (hs ++ (h ∷ []))
numbered_more n [] h f e = (omega (arith, e), tt)
numbered_more n (k ∷ hs) h f e = (f.0, numbered_more (n + 1) hs h f.1 (omega (arith, e)))

module _ {H T W : Type 0} (add : Adding H T W) where
  -- ---- one more at the end
  heads_more : (g : Opening) (hs : List HeadTold) (h : HeadTold) (x : H)
      → add_heads add g (hs ++ (h ∷ [])) x ≡ add.add_header g h.bar h.before h.header (add_heads add g hs x)
  heads_more g [] h x = refl
  heads_more g (k ∷ hs) h x = heads_more g hs h _

  tracks_more : (ts : List TrackTold) (t : TrackTold) (x : T)
      → add_tracks add (ts ++ (t ∷ [])) x ≡ add.add_track t.number t.track (add_tracks add ts x)
  tracks_more [] t x = refl
  tracks_more (u ∷ ts) t x = tracks_more ts t _

  pub events_more : (es : List Event) (e : Event) (x : W)
      → add_events add (es ++ (e ∷ [])) x ≡ add_event add e (add_events add es x)
  events_more [] e x = refl
  events_more (f ∷ es) e x = events_more es e _

  -- ---- after each step of the file, what was added is made of what was noted
  abbrev EventsSo : Opening → W → EventsTold → Type 0
  EventsSo g x w =
      (x ≡ events_made add g w) × All (Placed g) w.events × (length w.staves.tracks ≡ g.counts.tracks)
      × Numbered 0 w.heads

  abbrev MadeSo : Relations H (List HeadTold) T TracksTold W EventsTold
  MadeSo =
      record {
        headers = λ g n x hs at. (x ≡ heads_made add g hs) × Numbered 0 hs × (length hs ≡ n);
        tracks = λ g n x u at. (x ≡ tracks_made add g u) × (length u.tracks ≡ n);
        before = λ g n x w at. EventsSo g x w;
        within = λ g n x w at. EventsSo g x w;
      }

  keeps_so : (s : List ℕ) → Alike s MadeSo add noting
  keeps_so s =
      record {
        start = λ g at few l. (refl, tt, refl);
        header = λ g b time h x hs at n few l t f e. (
          ap (add.add_header g b time h) e.0 ∙ sym (heads_more g hs _ (add.headers g)),
          numbered_more 0 hs (record { bar = b; before = time; header = h }) e.1 (omega (arith, e.2)),
          omega (arith, length-append hs (record { bar = b; before = time; header = h } ∷ []), e.2),
        );
        tracks = λ g x hs at few e. (ap add.tracks e.0, refl);
        track = λ g n t x u at m few l f e. (
          ap (add.add_track n t) e.0 ∙ sym (tracks_more u.tracks _ _),
          omega (arith, length-append u.tracks (record { number = n; track = t } ∷ []), e.1),
        );
        bars = λ g h hs t u earlier at few e l f. (λ i. add.bars (e.0 i) (f.0 i), tt, f.1, e.1);
        enter = λ g b x w at few l e. (
          ap (add.enter_bar b) e.0 ∙ sym (events_more w.events (enters b) _),
          all_more (Placed g) w.events (enters b) e.1 l,
          e.2,
          e.3,
        );
        beat = λ g b t v u x w at n few l k o f e. (
          ap (add.add_beat b t v u) e.0 ∙ sym (events_more w.events (plays _) _),
          all_more (Placed g) w.events (plays _) e.1 (l, k, o),
          e.2,
          e.3,
        );
        leave = λ g b x w at few l e. e;
        tracks_later = λ g t x u at n o e. e;
        within_later = λ g b x w at n o e. e;
      }

  -- ---- so is the whole file
  pub record MadeOf (s : List ℕ) (x : Whole T W) (n : ℕ) : Type 0 where
    pub file : Told
    pub tells : run told s 0 ≡ ok file n
    pub is : x ≡ made add file
    pub placed : All (Placed file.song) file.bars.events
    pub tracks : length file.bars.staves.tracks ≡ file.song.counts.tracks
    pub heads : Numbered 0 file.bars.heads

  pub made_of_told : (s : List ℕ) → Bytes s → (x : Whole T W) (n : ℕ) → run (file add) s 0 ≡ ok x n → MadeOf s x n
  unfolding told made
  made_of_told s bytes x n e = go (run (file noting) s 0) refl (rw e at ((alike bytes (keeps_so s)).follows (omega arith)))
    where
      go : (r : Res Told) → run (file noting) s 0 ≡ r → Both (Agreed s MadeSo) (ok x n) r → MadeOf s x n
      go (stopped r) f b = absurd b
      go (ok y m) f b =
          let same : x.song ≡ y.song = b.1.song in
          let made_tracks : x.tracks ≡ tracks_made add y.song y.tracks = rw same at b.1.tracks.0 in
          let made_bars : x.bars ≡ events_made add y.song y.bars = rw same at b.1.bars.0 in
          record {
            file = y;
            tells = f ∙ ap (λ (k : ℕ). ok y k) (sym b.0);
            is = λ i. record { song = same i; tracks = made_tracks i; bars = made_bars i };
            placed = rw same at b.1.bars.1;
            tracks = b.1.bars.2 ∙ ap (λ (g : Opening). g.counts.tracks) same;
            heads = b.1.bars.3;
          }
