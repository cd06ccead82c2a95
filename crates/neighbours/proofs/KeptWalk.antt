-- So it is of a whole file, and each voice remembers the span of its last chord.
use Prim.Native.Nat.{ℕ, zero, suc, ◌+◌, ◌<◌}
use native.Mathlib.Omega.{arith}
use native.Mathlib.Decide.{ℕ_discrete}
use mathlib.Core.Path.{◌≡◌, refl, sym, ap, ◌∙◌}
use mathlib.Core.Bool.{Bool, true, false, ◌&&◌}
use mathlib.Core.List.{List, [], ◌∷◌, ◌++◌, map, append-nil, append_assoc}
use borrow.Author.Tests.{ne_eqb}
use lib.Dec.{eqb}
use lib.ListN.{length, get_or, length-append}
use Rattle.format.specs.Text.{pick}
use Rattle.format.specs.Prog.{ok, run}
use Rattle.format.specs.Yields.{Bytes}
use Rattle.tables.specs.Table.{change}
use Rattle.tables.proofs.Laws.{length-change}
use Rattle.beat.specs.Beat.{BeatIs}
use Rattle.score.specs.declared.Part.{Part}
use Rattle.score.specs.declared.Voice.{Voice}
use Rattle.score.specs.Members.{Keyed, in_order}
use Rattle.score.specs.Rows.{RowIs, rows_of}
use Rattle.score.specs.Sounding.{Sounding, sounding, remember}
use Rattle.score.specs.File.{Opening}
use Rattle.score.specs.Page.{Heads, Staves, Walk, Rowing, with_frets, part_of, keep_rows, running_after, add_track}
use Rattle.score.specs.Page.{enter_bar, add_beat, no_tracks, no_beats, keeping}
use Rattle.score.specs.Score.{Lists, lists, none, no_part, voice_of, with_voice, with_running, scored}
use Rattle.score.specs.Reading.{Score}
use Rattle.told.specs.Told.{TrackTold, Event, enters, plays, add_tracks, add_events, heads_made, made, Placed}
use Rattle.told.proofs.Made.{MadeOf, made_of_told}
use Rattle.refine.proofs.All.{All, all_get_d, all_more}
use Rattle.refine.proofs.Shown.{pick_both}
use Rattle.neighbours.specs.Ties.{is_beat, same_voice}
use Rattle.neighbours.proofs.Chords.{Chord, no_span, last_span, total, table, last_more}
use Rattle.neighbours.proofs.KeptChords.{Laid, FreshChord, Ready, chord_of, Rowed, rows_kept, rows_ready}

-- ---- other voices remember what they did

and_false : (b : Bool) → b && false ≡ false
and_false true = refl
and_false false = refl

module _ (t v a b : ℕ) (apart : same_voice t v a b ≡ false) where
  last_apart : (rs : List RowIs) (cs : List Chord) → All (Ready t v) rs
      → last_span a b 0 (cs ++ map chord_of rs) ≡ last_span a b 0 cs
  last_apart [] cs q = rw (append-nil cs)
  last_apart (r ∷ rs) cs q =
      rw (sym (append_assoc cs (chord_of r ∷ []) (map chord_of rs)))
      (last_apart rs (cs ++ (chord_of r ∷ [])) q.1
      ∙ last_more a b 0 cs (chord_of r)
      ∙ rw (q.0.track, q.0.voice, apart, and_false (is_beat r.kind)))

-- ---- a part that is changed

change_same : {A : Type 0} (g : A → A) (es : List A) (i : ℕ) (d : A) → i < length es
    → get_or (change g es i) i d ≡ g (get_or es i d)
change_same g [] i d h = absurd (omega arith)
change_same g (a ∷ es) zero d h = refl
change_same g (a ∷ es) (suc i) d h = change_same g es i d (omega arith)

change_other : {A : Type 0} (g : A → A) (es : List A) (i j : ℕ) (d : A) → (i ≡ j → ⊥)
    → get_or (change g es i) j d ≡ get_or es j d
change_other g [] i j d h = refl
change_other g (a ∷ es) zero zero d h = absurd (h refl)
change_other g (a ∷ es) zero (suc j) d h = refl
change_other g (a ∷ es) (suc i) zero d h = refl
change_other g (a ∷ es) (suc i) (suc j) d h = change_other g es i j d (λ e. h (ap suc e))

put_same : (v n : ℕ) (x : Voice) (p : Part) → voice_of v (with_running n (with_voice v x p)) ≡ x
put_same zero n x p = refl
put_same (suc v) n x p = refl

put_other : (v b n : ℕ) (x : Voice) (p : Part) → v < 2 → b < 2 → (v ≡ b → ⊥)
    → voice_of b (with_running n (with_voice v x p)) ≡ voice_of b p
put_other zero zero n x p h k d = absurd (d refl)
put_other zero (suc b) n x p h k d = refl
put_other (suc v) zero n x p h k d = refl
put_other (suc v) (suc b) n x p h k d = absurd (d (omega arith))

module _ (ps : List Part) (t v : ℕ) (x : Voice) (n : ℕ) where
  abbrev put : List Part
  put = lists.put_running t n (lists.put_voice t v x ps)

  length-put : length put ≡ length ps
  length-put = length-change (with_running n) (lists.put_voice t v x ps) t ∙ length-change (with_voice v x) ps t

  part_put : t < length ps → get_or put t no_part ≡ with_running n (with_voice v x (get_or ps t no_part))
  part_put h =
      change_same (with_running n) (lists.put_voice t v x ps) t no_part
      (omega (arith, h, length-change (with_voice v x) ps t))
      ∙ ap (with_running n) (change_same (with_voice v x) ps t no_part h)

  part_other : (a : ℕ) → (t ≡ a → ⊥) → get_or put a no_part ≡ get_or ps a no_part
  part_other a d =
      change_other (with_running n) (lists.put_voice t v x ps) t a no_part d
      ∙ change_other (with_voice v x) ps t a no_part d

-- ---- while beats are added, in a file of n tracks

pub record Walked (n : ℕ) (cs : List Chord) (w : Walk Lists) : Type 0 where
  pub rows : Laid 0 w.rows cs
  pub members : w.members ≡ table cs
  pub kept : w.tally.kept.members ≡ total cs
  pub fresh : All FreshChord cs
  pub parts : length w.parts ≡ n
  pub last : (t v : ℕ) → t < n → v < 2 → (voice_of v (get_or w.parts t no_part)).last ≡ last_span t v 0 cs

enter_walked : (n bar : ℕ) (cs : List Chord) (w : Walk Lists) → Walked n cs w → Walked n cs (enter_bar lists bar w)
unfolding enter_bar
enter_walked n bar cs w f =
    record { rows = f.rows; members = f.members; kept = f.kept; fresh = f.fresh; parts = f.parts; last = f.last }

module _ (n bar t v : ℕ) (b : BeatIs) (cs : List Chord) (w : Walk Lists)
    (inside : t < n) (two : v < 2) (f : Walked n cs w) where
  abbrev part : Part
  part = get_or w.parts t no_part

  abbrev memory : Voice
  memory = voice_of v part

  abbrev heard : List Sounding
  heard = sounding part.board memory.frets b

  abbrev xs : List Keyed
  xs = in_order part.board heard

  abbrev before : Rowing Lists
  before =
      record {
        rows = w.rows;
        members = w.members;
        points = w.points;
        kept = w.tally.kept;
        voice = with_frets memory (remember memory.frets heard);
      }

  abbrev rs : List RowIs
  rs = rows_of (record { bar = bar; track = t; voice = v }) part.board w.tally.flat part.running b xs

  abbrev after : Rowing Lists
  after = pick b.head.kept (keep_rows lists rs before) before

  -- the rows of a beat that is kept
  abbrev more : List RowIs
  more = pick b.head.kept rs []

  more_ready : All (Ready t v) more
  more_ready =
      pick_both (All (Ready t v)) b.head.kept rs []
      (rows_ready bar t v part.board w.tally.flat part.running b xs) tt

  before_rowed : Rowed t v cs before
  before_rowed =
      record { rows = f.rows; members = f.members; kept = f.kept; fresh = f.fresh; last = f.last t v inside two }

  after_rowed : Rowed t v (cs ++ map chord_of more) after
  after_rowed = go b.head.kept
    where
      go : (k : Bool) → Rowed t v (cs ++ map chord_of (pick k rs [])) (pick k (keep_rows lists rs before) before)
      go true =
          rows_kept t v rs cs before (rows_ready bar t v part.board w.tally.flat part.running b xs)
          before_rowed
      go false = rw (append-nil cs) before_rowed

  abbrev running : ℕ
  running = running_after lists part.running b xs

  -- the voices of the beat's track
  same : (c : ℕ) → c < 2
      → (voice_of c (with_running running (with_voice v after.voice part))).last
      ≡ last_span t c 0 (cs ++ map chord_of more)
  same c k = elim (ℕ_discrete v c) [
    | yes e ↦ rw (sym e, put_same v running after.voice part) after_rowed.last
    | no d ↦
        rw (put_other v c running after.voice part two k d)
        (f.last t c inside k
        ∙ sym (last_apart t v t c (rw (ne_eqb v c d) (and_false (eqb t t))) more cs more_ready))
  ]

  last_after_lem : (a c : ℕ) → a < n → c < 2
      → (voice_of c (get_or (put w.parts t v after.voice running) a no_part)).last
      ≡ last_span a c 0 (cs ++ map chord_of more)
  last_after_lem a c h k = elim (ℕ_discrete t a) [
    | yes e ↦ rw (sym e, part_put w.parts t v after.voice running (omega (arith, inside, f.parts))) (same c k)
    | no d ↦
        rw (part_other w.parts t v after.voice running a d)
        (f.last a c h k ∙ sym (last_apart t v a c (rw (ne_eqb t a d)) more cs more_ready))
  ]

  beat_walked : Walked n (cs ++ map chord_of more) (add_beat lists bar t v b w)
  unfolding add_beat
  beat_walked =
      record {
        rows = after_rowed.rows;
        members = after_rowed.members;
        kept = after_rowed.kept;
        fresh = after_rowed.fresh;
        parts = length-put w.parts t v after.voice running ∙ f.parts;
        last = last_after_lem;
      }

-- ---- from the first track to the last beat

abbrev FreshPart : Part → Type 0
FreshPart p = (p.first.last ≡ no_span) × (p.second.last ≡ no_span)

fresh_last : (v : ℕ) (p : Part) → FreshPart p → (voice_of v p).last ≡ no_span
fresh_last zero p f = f.0
fresh_last (suc v) p f = f.1

tracks_fresh : (ts : List TrackTold) (x : Staves Lists) → All FreshPart x.parts
    → All FreshPart (add_tracks (keeping lists none) ts x).parts
unfolding add_track
tracks_fresh [] x f = f
tracks_fresh (t ∷ ts) x f =
    tracks_fresh ts (add_track lists t.number t.track x)
    (all_more FreshPart x.parts (part_of t.track) f (refl, refl))

tracks_number : (ts : List TrackTold) (x : Staves Lists)
    → length (add_tracks (keeping lists none) ts x).parts ≡ length x.parts + length ts
unfolding add_track
tracks_number [] x = omega arith
tracks_number (t ∷ ts) x =
    omega (
      arith,
      tracks_number ts (add_track lists t.number t.track x),
      length-append x.parts (part_of t.track ∷ []),
    )

start_walked : (n : ℕ) (h : Heads Lists) (x : Staves Lists) → All FreshPart x.parts → length x.parts ≡ n
    → Walked n [] (no_beats lists none h x)
unfolding no_beats
start_walked n h x f e =
    record {
      rows = tt;
      members = refl;
      kept = refl;
      fresh = tt;
      parts = e;
      last = λ t v l k. fresh_last v _ (all_get_d FreshPart x.parts t no_part f (refl, refl));
    }

-- chords that the walk is made of
abbrev pub OfChords : ℕ → Walk Lists → Type 0
OfChords n w = (cs : List Chord) × Walked n cs w

events_walked : (g : Opening) (es : List Event) (w : Walk Lists) → All (Placed g) es → OfChords g.counts.tracks w
    → OfChords g.counts.tracks (add_events (keeping lists none) es w)
events_walked g [] w q f = f
events_walked g (enters bar ∷ es) w q f =
    events_walked g es (enter_bar lists bar w) q.1 (f.0, enter_walked g.counts.tracks bar f.0 w f.1)
events_walked g (plays b ∷ es) w q f =
    events_walked g es (add_beat lists b.bar b.track b.voice b.beat w) q.1
    (_, beat_walked g.counts.tracks b.bar b.track b.voice b.beat f.0 w q.0.1 q.0.2 f.1)

-- so is any file that is read
pub file_walked : (s : List ℕ) → Bytes s → (x : Score) (n : ℕ) → run scored s 0 ≡ ok x n
    → OfChords x.song.counts.tracks x.bars
unfolding scored made no_tracks
file_walked s bytes x n e =
    let f : MadeOf (keeping lists none) s x n = made_of_told (keeping lists none) s bytes x n e in
    let g : Opening = f.file.song in
    let ts : List TrackTold = f.file.bars.staves.tracks in
    let first : Staves Lists = no_tracks lists none (heads_made (keeping lists none) g f.file.bars.staves.heads) in
    rw f.is
    (events_walked g f.file.bars.events _ f.placed (
      [],
      start_walked g.counts.tracks _ _ (tracks_fresh ts first tt)
          (omega (arith, tracks_number ts first, f.tracks)),
    ))
