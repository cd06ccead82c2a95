-- The laws of the walk, of every file that is read.
use Prim.Native.Nat.{ℕ, zero, suc}
use native.Mathlib.Omega.{arith}
use mathlib.Core.Path.{◌≡◌, refl, sym, subst, ◌∙◌}
use mathlib.Core.List.{List, [], ◌∷◌, ◌++◌, map, reverse, reverse_aux, append-nil, append_assoc}
use lib.ListN.{length, get_or, length-map, get_or-map}
use Rattle.score.specs.declared.Part.{Part}
use Rattle.score.specs.File.{Opening}
use Rattle.score.specs.Page.{Heads, Staves, Walk, part_of, no_tracks, add_track, no_beats, keeping}
use Rattle.score.specs.Reading.{Score}
use Rattle.score.specs.Score.{Lists, lists, none, no_part, voice_of}
use Rattle.refine.proofs.All.{All}
use Rattle.told.specs.Told.{Told, TrackTold, Event, enters, plays, add_tracks, add_event, add_events, made, Placed}
use Rattle.told.proofs.Made.{MadeOf}
use Rattle.teacher.specs.Teacher.{no_track_told, board_in}
use Rattle.teacher.proofs.Memory.{all_read}
use Rattle.teacher.proofs.Rows.{Stands}
use Rattle.teacher.proofs.Walk.{Walked, enter_walked, beat_walked}

-- ---- before the first event: the parts are those of the tracks, and nothing is remembered
abbrev part : TrackTold → Part
part t = part_of t.track

parts_made : (ts : List TrackTold) (u : Staves Lists)
    → (add_tracks (keeping lists none) ts u).parts ≡ u.parts ++ map part ts
unfolding add_track
parts_made [] u = sym (append-nil u.parts)
parts_made (t ∷ ts) u = parts_made ts _ ∙ append_assoc u.parts (part t ∷ []) (map part ts)

voice_empty : (v : ℕ) (t : TrackTold) (strings track voice : ℕ)
    → (voice_of v (part t)).frets ≡ all_read strings track voice []
voice_empty zero t strings track voice = refl
voice_empty (suc v) t strings track voice = refl

module _ (h k : Heads Lists) (ts : List TrackTold) where
  abbrev start : Walk Lists
  start = no_beats lists none h (add_tracks (keeping lists none) ts (no_tracks lists none k))

  parts_start : start.parts ≡ map part ts
  unfolding no_beats no_tracks
  parts_start = parts_made ts (no_tracks lists none k)

  stands_start : Stands start.rows start.members start.tally.kept.members []
  unfolding no_beats
  stands_start = record { count = refl; within = tt; seen = refl }

  start_walked : Walked ts [] start
  start_walked =
      let same : (t : ℕ) → get_or start.parts t no_part ≡ part (get_or ts t no_track_told) =
      λ t. rw parts_start (get_or-map part ts t no_track_told) in
      record {
        parts = rw parts_start (length-map ts part);
        board = λ t. rw (same t);
        frets = λ t v h few. rw (same t) (voice_empty v (get_or ts t no_track_told) (board_in ts t).strings.count t v);
        stands = stands_start;
      }

-- ---- the events one after another, said from the last back
abbrev back : List Event → Walk Lists → Walk Lists
back [] w = w
back (e ∷ es) w = add_event (keeping lists none) e (back es w)

back_is : (es done : List Event) (w : Walk Lists)
    → add_events (keeping lists none) es (back done w) ≡ back (reverse_aux es done) w
back_is [] done w = refl
back_is (e ∷ es) done w = back_is es (e ∷ done) w

pub all_back : {A : Type 0} (P : A → Type 0) (es done : List A) → All P es → All P done → All P (reverse_aux es done)
all_back P [] done f g = g
all_back P (e ∷ es) done f g = all_back P es (e ∷ done) f.1 (f.0, g)

-- ---- after each of them
back_walked : (g : Opening) (ts : List TrackTold) (w : Walk Lists) → length ts ≡ g.counts.tracks → Walked ts [] w
    → (es : List Event) → All (Placed g) es → Walked ts es (back es w)
back_walked g ts w many f [] q = f
back_walked g ts w many f (enters bar ∷ es) q =
    enter_walked ts es bar (back es w) (back_walked g ts w many f es q.1)
back_walked g ts w many f (plays b ∷ es) q =
    beat_walked ts es b (back es w) (back_walked g ts w many f es q.1) (omega (arith, q.0.1)) q.0.2

-- ---- so of a file
told_walked : (f : Told) → All (Placed f.song) f.bars.events
    → length f.bars.staves.tracks ≡ f.song.counts.tracks
    → Walked f.bars.staves.tracks (reverse f.bars.events) (made (keeping lists none) f).bars
unfolding made
told_walked f placed many =
    let ts : List TrackTold = f.bars.staves.tracks in
    rw (back_is f.bars.events [])
    (back_walked f.song ts _ many (start_walked _ _ ts) (reverse f.bars.events)
    (all_back (Placed f.song) f.bars.events [] placed tt))

pub file_walked : (s : List ℕ) (x : Score) (n : ℕ) (m : MadeOf (keeping lists none) s x n)
    → Walked m.file.bars.staves.tracks (reverse m.file.bars.events) x.bars
file_walked s x n m =
    subst (λ (y : Score). Walked m.file.bars.staves.tracks (reverse m.file.bars.events) y.bars)
    (sym m.is) (told_walked m.file m.placed m.tracks)
