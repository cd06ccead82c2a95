-- The rows and members that are kept of a file are chords one after another.
use Rattle.std.specs.Prelude.{None, Option, Some}
use Prim.Native.Nat.{ℕ, zero, suc, ◌+◌}
use native.Mathlib.Omega.{arith}
use mathlib.Core.Path.{◌≡◌, refl, sym, ap, ◌∙◌}
use mathlib.Core.Bool.{Bool, true, false, ◌&&◌, true≢false}
use mathlib.Core.List.{List, [], ◌∷◌, ◌++◌, map, append-nil, append_assoc}
use lib.ListN.{length}
use Rattle.format.specs.Text.{pick}
use Rattle.tables.specs.Table.{change}
use Rattle.model.specs.declared.Member.{Member}
use Rattle.model.specs.declared.Row.{Row}
use Rattle.model.specs.declared.RowKind.{RowKind}
use Rattle.model.specs.declared.RowKind.TheVariants.{Grace, Beat}
use Rattle.model.specs.declared.Span.{Span}
use Rattle.model.specs.declared.OttavaMarks.{OttavaMarks}
use Rattle.model.specs.declared.RowPlace.{RowPlace}
use Rattle.score.specs.declared.Fretboard.{Fretboard}
use Rattle.score.specs.declared.Hammer.{Hammer}
use Rattle.score.specs.declared.KeptCounts.{KeptCounts}
use Rattle.score.specs.declared.OttavaRun.{OttavaRun}
use Rattle.beat.specs.Beat.{BeatIs}
use Rattle.score.specs.Members.{Keyed, member_of, Graced, graces, grace_member}
use Rattle.score.specs.Rows.{RowIs, rest_row, chord_row, grace_row, grace_rows, beat_row, rows_of}
use Rattle.score.specs.Page as Page
use Rattle.score.specs.Page.{Rowing, span_of, unfingered, fingered, row_entry, pulls, under, same_kind, ottava_marks}
use Rattle.score.specs.Page.{last_after, turn_hammer, turn_run, start_ties, keep_row, keep_rows}
use Rattle.score.specs.Score.{Lists, lists, start_first}
use Rattle.refine.proofs.All.{All, all_more}
use Rattle.refine.proofs.Shown.{pick_both, add_all_is}
use Rattle.neighbours.specs.Ties.{is_beat}
use Rattle.neighbours.proofs.Chords.{Chord, last_span, total, table, table_more, table_grace, total_more}
use Rattle.neighbours.proofs.Chords.{last_more, voice_self}

-- ---- rows that stand for chords, whose members are numbered from n on

pub record Seen (n : ℕ) (r : Row) (c : Chord) : Type 0 where
  pub track : r.place.track ≡ c.track
  pub voice : r.place.voice ≡ c.voice
  pub kind : r.kind ≡ c.kind
  pub members : r.members ≡ span_of n (length c.members)
  pub rest : r.rest ≡ true → c.members ≡ []

abbrev pub Laid : ℕ → List Row → List Chord → Type 0
Laid n [] [] = Unit {0}
Laid n [] (c ∷ cs) = ⊥
Laid n (r ∷ rs) [] = ⊥
Laid n (r ∷ rs) (c ∷ cs) = Seen n r c × Laid (n + length c.members) rs cs

laid_more : (n : ℕ) (rs : List Row) (cs : List Chord) (r : Row) (c : Chord) → Laid n rs cs → Seen (n + total cs) r c
    → Laid n (rs ++ (r ∷ [])) (cs ++ (c ∷ []))
laid_more n [] [] r c f s = let e : n + 0 ≡ n = omega arith in (rw e at s, tt)
laid_more n [] (d ∷ cs) r c f s = absurd f
laid_more n (q ∷ rs) [] r c f s = absurd f
laid_more n (q ∷ rs) (d ∷ cs) r c f s =
    let e : n + (length d.members + total cs) ≡ n + length d.members + total cs = omega arith in
    (f.0, laid_more (n + length d.members) rs cs r c f.1 (rw e at s))

module _ (g : Row → Row) (keeps : (n : ℕ) (r : Row) (c : Chord) → Seen n r c → Seen n (g r) c) where
  laid_change : (n : ℕ) (rs : List Row) (cs : List Chord) (i : ℕ) → Laid n rs cs → Laid n (change g rs i) cs
  laid_change n [] cs i f = f
  laid_change n (r ∷ rs) [] i f = absurd f
  laid_change n (r ∷ rs) (c ∷ cs) zero f = (keeps n r c f.0, f.1)
  laid_change n (r ∷ rs) (c ∷ cs) (suc i) f = (f.0, laid_change (n + length c.members) rs cs i f.1)

-- a row that turns pull-off, or at which an ottava does not end, stands for the same chord
module _ (n : ℕ) (rs : List Row) (cs : List Chord) (f : Laid n rs cs) (r : RowIs) where
  laid_hammer : (h : Option Hammer) → Laid n (turn_hammer lists h r rs) cs
  laid_hammer None = f
  laid_hammer (Some w) =
      pick_both (λ q. Laid n q cs) (pulls r w.key) (lists.pull_off w.row rs) rs
      (laid_change _
      (λ n q c s. record { track = s.track; voice = s.voice; kind = s.kind; members = s.members; rest = s.rest })
      n rs cs w.row f)
      f

  laid_run : (o : Option OttavaRun) → Laid n (turn_run lists o r rs) cs
  laid_run None = f
  laid_run (Some o) =
      pick_both (λ q. Laid n q cs) (under r && same_kind r (Some o)) (lists.carry_on o.row rs) rs
      (laid_change _
      (λ n q c s. record { track = s.track; voice = s.voice; kind = s.kind; members = s.members; rest = s.rest })
      n rs cs o.row f)
      f

-- ---- the chord of a row that is kept

-- no tie starts on a member that is added, and none ends at a grace
abbrev pub Unstarted : Member → Type 0
Unstarted m = m.ties.start ≡ false

abbrev Unended : Member → Type 0
Unended m = m.ties.end ≡ false

abbrev Ends : RowKind → List Member → Type 0
Ends Grace ms = All Unended ms
Ends Beat ms = Unit {0}

-- a row that is added in a voice of a track
pub record Ready (t v : ℕ) (r : RowIs) : Type 0 where
  pub track : r.place.track ≡ t
  pub voice : r.place.voice ≡ v
  pub fresh : All Unstarted r.members
  pub ends : Ends r.kind r.members
  pub rest : r.rest ≡ true → r.members ≡ []

abbrev pub chord_of : RowIs → Chord
chord_of r =
    record { track = r.place.track; voice = r.place.voice; kind = r.kind; members = fingered r.members }

length-fingered : (ms : List Member) → length (fingered ms) ≡ length ms
length-fingered [] = refl
length-fingered (m ∷ []) = refl
length-fingered (m ∷ n ∷ ms) = refl

fingered_fresh : (ms : List Member) → All Unstarted ms → All Unstarted (fingered ms)
fingered_fresh [] f = tt
fingered_fresh (m ∷ []) f = f
fingered_fresh (m ∷ n ∷ ms) f = f

-- a finger has no part in ties
start_unfingered : (i k : ℕ) (m : Member) (ms : List Member) → start_first i k m ms ≡ start_first i k (unfingered m) ms
start_unfingered i zero m ms = refl
start_unfingered i (suc k) m ms = rw (start_unfingered (i + 1) k m ms)

ties_fingered : (last : Span) (tied ms : List Member)
    → start_ties lists last tied ms ≡ start_ties lists last (fingered tied) ms
ties_fingered last [] ms = refl
ties_fingered last (m ∷ []) ms = rw (start_unfingered last.first last.count m ms)
ties_fingered last (m ∷ n ∷ tied) ms = refl

no_ends : (last : Span) (tied ms : List Member) → All Unended tied → start_ties lists last tied ms ≡ ms
no_ends last [] ms f = refl
no_ends last (m ∷ tied) ms f = rw f.0 (no_ends last tied ms f.1)

-- ---- while the rows of a beat are added

abbrev pub FreshChord : Chord → Type 0
FreshChord c = All Unstarted c.members

pub record Rowed (t v : ℕ) (cs : List Chord) (w : Rowing Lists) : Type 0 where
  pub rows : Laid 0 w.rows cs
  pub members : w.members ≡ table cs
  pub kept : w.kept.members ≡ total cs
  pub fresh : All FreshChord cs
  pub last : w.voice.last ≡ last_span t v 0 cs

module _ (t v : ℕ) (cs : List Chord) (r : RowIs) (q : Ready t v r) where
  abbrev last : Span
  last = last_span t v 0 cs

  row_members : (k : RowKind) → r.kind ≡ k → Ends k r.members
      → start_ties lists last r.members (table cs) ++ fingered r.members ≡ table (cs ++ (chord_of r ∷ []))
  row_members Grace e f =
      rw (no_ends last r.members (table cs) f, e)
      (sym (table_grace r.place.track r.place.voice (fingered r.members) cs))
  row_members Beat e f =
      rw (ties_fingered last r.members (table cs), e, q.track, q.voice)
      (table_more t v (fingered r.members) cs [] 0 refl)

  row_last : last_after r.kind (span_of (total cs) (length r.members)) last
      ≡ last_span t v 0 (cs ++ (chord_of r ∷ []))
  row_last =
      let z : 0 + total cs ≡ total cs = omega arith in
      rw (last_more t v 0 cs (chord_of r), z, length-fingered r.members, q.track, q.voice, voice_self t v)
      (go r.kind (span_of (total cs) (length r.members)))
    where
      go : (k : RowKind) (own : Span) → last_after k own last ≡ pick (is_beat k && true) own last
      go Grace own = refl
      go Beat own = refl

  row_seen : (marks : OttavaMarks) (kept : KeptCounts) → kept.members ≡ total cs
      → Seen (0 + total cs) (row_entry r marks kept) (chord_of r)
  unfolding row_entry
  row_seen marks kept e =
      let z : 0 + total cs ≡ total cs = omega arith in
      record {
        track = refl;
        voice = refl;
        kind = refl;
        members = rw (e, z, length-fingered r.members);
        rest = λ d. ap fingered (q.rest d);
      }

  row_kept : (w : Rowing Lists) → Rowed t v cs w → Rowed t v (cs ++ (chord_of r ∷ [])) (keep_row lists r w)
  unfolding keep_row
  row_kept w f =
      let struck : List Row = turn_hammer lists w.voice.hammer r w.rows in
      let marks : OttavaMarks = ottava_marks r w.voice.run in
      record {
        rows =
            laid_more 0 (turn_run lists w.voice.run r struck) cs (row_entry r marks w.kept) (chord_of r)
            (laid_run 0 struck cs (laid_hammer 0 w.rows cs f.rows r w.voice.hammer) r w.voice.run)
            (row_seen marks w.kept f.kept);
        members =
            add_all_is Page.members w.kept.members (fingered r.members) _
            ∙ rw (f.last, f.members) (row_members r.kind refl q.ends);
        kept = omega (arith, f.kept, total_more cs (chord_of r), length-fingered r.members);
        fresh = all_more FreshChord cs (chord_of r) f.fresh (fingered_fresh r.members q.fresh);
        last = rw (f.kept, f.last) row_last;
      }

pub rows_kept : (t v : ℕ) (rs : List RowIs) (cs : List Chord) (w : Rowing Lists) → All (Ready t v) rs → Rowed t v cs w
    → Rowed t v (cs ++ map chord_of rs) (keep_rows lists rs w)
rows_kept t v [] cs w q f = rw (append-nil cs) f
rows_kept t v (r ∷ rs) cs w q f =
    rw (append_assoc cs (chord_of r ∷ []) (map chord_of rs)) at
    (rows_kept t v rs (cs ++ (chord_of r ∷ [])) (keep_row lists r w) q.1 (row_kept t v cs r q.0 w f))

-- ---- the rows of a beat

members_fresh : (board : Fretboard) (flat : Bool) (xs : List Keyed) → All Unstarted (map (member_of board flat) xs)
unfolding member_of
members_fresh board flat [] = tt
members_fresh board flat (x ∷ xs) = (refl, members_fresh board flat xs)

graces_fresh : (board : Fretboard) (flat : Bool) (gs : List Graced) → All Unstarted (map (grace_member board flat) gs)
unfolding grace_member
graces_fresh board flat [] = tt
graces_fresh board flat (g ∷ gs) = (refl, graces_fresh board flat gs)

graces_end : (board : Fretboard) (flat : Bool) (gs : List Graced) → All Unended (map (grace_member board flat) gs)
unfolding grace_member
graces_end board flat [] = tt
graces_end board flat (g ∷ gs) = (refl, graces_end board flat gs)

module _ (bar t v : ℕ) (board : Fretboard) (flat : Bool) (running : ℕ) (b : BeatIs) where
  abbrev place : RowPlace
  place = record { bar = bar; track = t; voice = v }

  beat_ready : (xs : List Keyed) → Ready t v (beat_row place board flat running b xs)
  unfolding rest_row chord_row
  beat_ready [] = record { track = refl; voice = refl; fresh = tt; ends = tt; rest = λ d. refl }
  beat_ready (x ∷ xs) =
      record {
        track = refl;
        voice = refl;
        fresh = members_fresh board flat (x ∷ xs);
        ends = tt;
        rest = λ d. absurd (true≢false (sym d));
      }

  graces_ready : (gs : List Graced) → All (Ready t v) (grace_rows place board flat b.range gs)
  unfolding grace_row
  graces_ready [] = tt
  graces_ready (g ∷ gs) = (
    record {
      track = refl;
      voice = refl;
      fresh = graces_fresh board flat (g ∷ gs);
      ends = graces_end board flat (g ∷ gs);
      rest = λ d. absurd (true≢false (sym d));
    },
    tt,
  )

  pub rows_ready : (xs : List Keyed) → All (Ready t v) (rows_of place board flat running b xs)
  unfolding rows_of
  rows_ready xs =
      all_more (Ready t v) (grace_rows place board flat b.range (graces xs)) (beat_row place board flat running b xs)
      (graces_ready (graces xs)) (beat_ready xs)
