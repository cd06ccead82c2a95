-- Chords kept one after another, and the ties that start on each for the next of its voice: the same as ties started on
-- the last chord of a voice when the next comes.
use Prim.Native.Nat.{ℕ, suc, ◌+◌}
use native.Mathlib.Omega.{arith}
use mathlib.Core.Path.{◌≡◌, refl, sym, ap, ◌∙◌}
use mathlib.Core.Bool.{Bool, true, false, ◌&&◌, ◌||◌, true≢false}
use mathlib.Core.List.{List, [], ◌∷◌, ◌++◌, append-nil, append_assoc}
use borrow.Author.Tests.{eqb-true, eq-eqb}
use lib.Dec.{eqb, eqb-suc-zero}
use lib.ListN.{length, length-append}
use lib.Seq.{get_or-append_seam}
use Rattle.format.specs.Text.{pick}
use Rattle.tables.specs.Table.{change}
use Rattle.model.specs.declared.Member.{Member}
use Rattle.model.specs.declared.RowKind.{RowKind}
use Rattle.model.specs.declared.RowKind.TheVariants.{Grace, Beat}
use Rattle.model.specs.declared.Span.{Span}
use Rattle.entries.specs.Changed.{with_tie_start}
use Rattle.score.specs.Page.{span_of, start_ties}
use Rattle.score.specs.Score.{lists, answers, no_member, start_first}
use Rattle.refine.proofs.Shown.{pick_both}
use Rattle.neighbours.specs.Ties.{is_beat, same_voice}

pick_same : {A : Type 0} (b : Bool) (x : A) → pick b x x ≡ x
pick_same true x = refl
pick_same false x = refl

and_both : (b c : Bool) → b && c ≡ true → (b ≡ true) × (c ≡ true)
and_both true c e = (refl, e)
and_both false true e = absurd (true≢false (sym e))
and_both false false e = absurd (true≢false (sym e))

-- ---- ties started on one chord

-- at the first of it that answers
abbrev pub start_one : Member → List Member → List Member
start_one t [] = []
start_one t (m ∷ ms) = pick (answers t m) (with_tie_start true m ∷ ms) (m ∷ start_one t ms)

-- for those of the next that end a tie
abbrev pub tie_one : Member → List Member → List Member
tie_one t ms = pick t.ties.end (start_one t ms) ms

abbrev pub start_all : List Member → List Member → List Member
start_all [] ms = ms
start_all (t ∷ next) ms = start_all next (tie_one t ms)

length_one : (t : Member) (ms : List Member) → length (start_one t ms) ≡ length ms
length_one t [] = refl
length_one t (m ∷ ms) =
    pick_both (λ l. length l ≡ length (m ∷ ms)) (answers t m) (with_tie_start true m ∷ ms) (m ∷ start_one t ms) refl
    (ap suc (length_one t ms))

pub length-tie : (t : Member) (ms : List Member) → length (tie_one t ms) ≡ length ms
length-tie t ms = pick_both (λ l. length l ≡ length ms) t.ties.end (start_one t ms) ms (length_one t ms) refl

pub length_all : (next ms : List Member) → length (start_all next ms) ≡ length ms
length_all [] ms = refl
length_all (t ∷ next) ms = length_all next (tie_one t ms) ∙ length-tie t ms

-- ---- in a table, with members before and after the chord

change_seam : (g : Member → Member) (pre : List Member) (m : Member) (ms : List Member)
    → change g (pre ++ (m ∷ ms)) (length pre) ≡ pre ++ (g m ∷ ms)
change_seam g [] m ms = refl
change_seam g (x ∷ pre) m ms = ap (λ (l : List Member). x ∷ l) (change_seam g pre m ms)

start_is : (t : Member) (d pre post : List Member) (n : ℕ) → length pre ≡ n
    → start_first n (length d) t (pre ++ (d ++ post)) ≡ pre ++ (start_one t d ++ post)
start_is t [] pre post n e = refl
start_is t (m ∷ d) pre post n e =
    rw (sym e, get_or-append_seam pre m (d ++ post) no_member, change_seam (with_tie_start true) pre m (d ++ post))
    (go (answers t m)
    (rw (append_assoc pre (m ∷ []) (d ++ post), append_assoc pre (m ∷ []) (start_one t d ++ post)) at
    (start_is t d (pre ++ (m ∷ [])) post (length pre + 1) (length-append pre (m ∷ [])))))
  where
    go : (b : Bool)
        → start_first (length pre + 1) (length d) t (pre ++ (m ∷ (d ++ post))) ≡ pre ++ (m ∷ (start_one t d ++ post))
        → pick b (pre ++ (with_tie_start true m ∷ (d ++ post)))
        (start_first (length pre + 1) (length d) t (pre ++ (m ∷ (d ++ post))))
        ≡ pre ++ (pick b (with_tie_start true m ∷ d) (m ∷ start_one t d) ++ post)
    go true f = refl
    go false f = f

-- ties of one member, where it ends one, and of many
abbrev tie_in : Span → Member → List Member → List Member
tie_in last t ms = pick t.ties.end (lists.start_tie last t ms) ms

tie_is : (t : Member) (d pre post : List Member) (n k : ℕ) → length pre ≡ n → length d ≡ k
    → tie_in (record { first = n; count = k }) t (pre ++ (d ++ post)) ≡ pre ++ (tie_one t d ++ post)
tie_is t d pre post n k e f = go t.ties.end
  where
    go : (b : Bool) → pick b (start_first n k t (pre ++ (d ++ post))) (pre ++ (d ++ post))
        ≡ pre ++ (pick b (start_one t d) d ++ post)
    go true = rw (sym f) (start_is t d pre post n e)
    go false = refl

ties_are : (next d pre post : List Member) (n k : ℕ) → length pre ≡ n → length d ≡ k
    → start_ties lists (record { first = n; count = k }) next (pre ++ (d ++ post)) ≡ pre ++ (start_all next d ++ post)
ties_are [] d pre post n k e f = refl
ties_are (t ∷ next) d pre post n k e f =
    rw (tie_is t d pre post n k e f) (ties_are next (tie_one t d) pre post n k e (length-tie t d ∙ f))

abbrev pub no_span : Span
no_span = record { first = 0; count = 0 }

-- on no chord
pub no_ties : (next ms : List Member) → start_ties lists no_span next ms ≡ ms
no_ties [] ms = refl
no_ties (t ∷ next) ms = rw (pick_same t.ties.end ms) (no_ties next ms)

all_nil : (next : List Member) → start_all next [] ≡ []
all_nil [] = refl
all_nil (t ∷ next) = rw (pick_same {A = List Member} t.ties.end []) (all_nil next)

-- on the span of a chord
pub span_ties : (next d pre post : List Member)
    → start_ties lists (span_of (length pre) (length d)) next (pre ++ (d ++ post)) ≡ pre ++ (start_all next d ++ post)
span_ties next [] pre post = no_ties next (pre ++ post) ∙ rw (all_nil next)
span_ties next (m ∷ d) pre post = rw eqb-suc-zero (ties_are next (m ∷ d) pre post _ _ refl refl)

-- ---- chords in the order kept, as they were before ties started on them

pub record Chord : Type 0 where
  pub track : ℕ
  pub voice : ℕ
  pub kind : RowKind
  pub members : List Member

-- a kept beat of a voice of a track
abbrev pub is_of : (track voice : ℕ) → Chord → Bool
is_of t v c = is_beat c.kind && same_voice c.track c.voice t v

-- whether there is one, the members of the first, the span of the last where the members are numbered from n on
abbrev pub heard : (track voice : ℕ) → List Chord → Bool
heard t v [] = false
heard t v (c ∷ cs) = is_of t v c || heard t v cs

abbrev pub next_of : (track voice : ℕ) → List Chord → List Member
next_of t v [] = []
next_of t v (c ∷ cs) = pick (is_of t v c) c.members (next_of t v cs)

abbrev pub last_span : (track voice n : ℕ) → List Chord → Span
last_span t v n [] = no_span
last_span t v n (c ∷ cs) =
    pick (heard t v cs) (last_span t v (n + length c.members) cs)
    (pick (is_of t v c) (span_of n (length c.members)) no_span)

-- how many members there are
abbrev pub total : List Chord → ℕ
total [] = 0
total (c ∷ cs) = length c.members + total cs

-- a chord with the ties that start on it, and the table of all members
abbrev pub finished : Chord → List Chord → List Member
finished c cs = pick (is_beat c.kind) (start_all (next_of c.track c.voice cs) c.members) c.members

abbrev pub table : List Chord → List Member
table [] = []
table (c ∷ cs) = finished c cs ++ table cs

pub length_finished : (c : Chord) (cs : List Chord) → length (finished c cs) ≡ length c.members
length_finished c cs =
    pick_both (λ l. length l ≡ length c.members) (is_beat c.kind) _ c.members
    (length_all (next_of c.track c.voice cs) c.members) refl

-- ---- one chord more

next_more : (t v : ℕ) (cs ds : List Chord)
    → next_of t v (cs ++ ds) ≡ pick (heard t v cs) (next_of t v cs) (next_of t v ds)
next_more t v [] ds = refl
next_more t v (c ∷ cs) ds = go (is_of t v c) (next_more t v cs ds)
  where
    go : (b : Bool) → next_of t v (cs ++ ds) ≡ pick (heard t v cs) (next_of t v cs) (next_of t v ds)
        → pick b c.members (next_of t v (cs ++ ds))
        ≡ pick (b || heard t v cs) (pick b c.members (next_of t v cs)) (next_of t v ds)
    go true f = refl
    go false f = f

next_none : (t v : ℕ) (cs : List Chord) → heard t v cs ≡ false → next_of t v cs ≡ []
next_none t v [] e = refl
next_none t v (c ∷ cs) e = go (is_of t v c) e (next_none t v cs)
  where
    go : (b : Bool) → b || heard t v cs ≡ false → (heard t v cs ≡ false → next_of t v cs ≡ [])
        → pick b c.members (next_of t v cs) ≡ []
    go true e f = absurd (true≢false e)
    go false e f = f e

last_none : (t v n : ℕ) (cs : List Chord) → heard t v cs ≡ false → last_span t v n cs ≡ no_span
last_none t v n [] e = refl
last_none t v n (c ∷ cs) e = go (is_of t v c) (heard t v cs) e
  where
    go : (b h : Bool) → b || h ≡ false
        → pick h (last_span t v (n + length c.members) cs) (pick b (span_of n (length c.members)) no_span) ≡ no_span
    go true h e = absurd (true≢false e)
    go false true e = absurd (true≢false e)
    go false false e = refl

same_voice_lem : (a b t v : ℕ) → same_voice a b t v ≡ true → (a ≡ t) × (b ≡ v)
same_voice_lem a b t v e =
    let f = and_both (eqb a t) (eqb b v) e in
    (eqb-true a t f.0, eqb-true b v f.1)

pub voice_self : (t v : ℕ) → same_voice t v t v ≡ true
voice_self t v = rw (eq-eqb t t refl, eq-eqb v v refl)

finished_last : (d : Chord) (cs : List Chord) → heard d.track d.voice cs ≡ false → finished d cs ≡ d.members
finished_last d cs e = rw (next_none d.track d.voice cs e) (pick_same (is_beat d.kind) d.members)

together : (a b c d : List Member) → (a ++ (b ++ c)) ++ d ≡ a ++ (b ++ (c ++ d))
together a b c d = rw (append_assoc a (b ++ c) d, append_assoc b c d)

module _ (t v : ℕ) (d : Chord) (s : same_voice t v d.track d.voice ≡ true) where
  heard_same : (cs : List Chord) {h : Bool} → heard t v cs ≡ h → heard d.track d.voice cs ≡ h
  heard_same cs e = let q = same_voice_lem t v d.track d.voice s in rw (sym q.0, sym q.1) e

  not_of : is_beat d.kind ≡ true → is_of t v d ≡ false → ⊥
  not_of b i =
      let q = same_voice_lem t v d.track d.voice s in
      true≢false (rw (b, sym q.0, sym q.1, voice_self t v) at i)

-- a kept beat with these members
module _ (t v : ℕ) (tied : List Member) where
  abbrev one : Chord
  one = record { track = t; voice = v; kind = Beat; members = tied }

  next_same : (a b : ℕ) (cs : List Chord) → (same_voice t v a b ≡ true → heard a b cs ≡ true)
      → next_of a b (cs ++ (one ∷ [])) ≡ next_of a b cs
  next_same a b cs f = next_more a b cs (one ∷ []) ∙ go (heard a b cs) (same_voice t v a b) f (next_none a b cs)
    where
      go : (h u : Bool) → (u ≡ true → h ≡ true) → (h ≡ false → next_of a b cs ≡ [])
          → pick h (next_of a b cs) (pick u tied []) ≡ next_of a b cs
      go true u f g = refl
      go false true f g = absurd (true≢false (sym (f refl)))
      go false false f g = sym (g refl)

  finished_same : (d : Chord) (cs : List Chord)
      → (is_beat d.kind ≡ true → same_voice t v d.track d.voice ≡ true → heard d.track d.voice cs ≡ true)
      → finished d (cs ++ (one ∷ [])) ≡ finished d cs
  finished_same d cs f = go (is_beat d.kind) f
    where
      go : (b : Bool) → (b ≡ true → same_voice t v d.track d.voice ≡ true → heard d.track d.voice cs ≡ true)
          → pick b (start_all (next_of d.track d.voice (cs ++ (one ∷ []))) d.members) d.members
          ≡ pick b (start_all (next_of d.track d.voice cs) d.members) d.members
      go true f = rw (next_same d.track d.voice cs (f refl))
      go false f = refl

  finished_tied : (d : Chord) (cs : List Chord) → is_of t v d ≡ true → heard t v cs ≡ false
      → finished d (cs ++ (one ∷ [])) ≡ start_all tied d.members
  finished_tied d cs o h =
      let f = and_both (is_beat d.kind) (same_voice d.track d.voice t v) o in
      let e = same_voice_lem d.track d.voice t v f.1 in
      rw (f.0, e.0, e.1, next_more t v cs (one ∷ []), h, voice_self t v)

  -- where no chord of the voice came before
  table_none : (cs : List Chord) (n : ℕ) → heard t v cs ≡ false
      → start_ties lists (last_span t v n cs) tied (table cs) ++ tied ≡ table (cs ++ (one ∷ []))
      → table cs ++ tied ≡ table (cs ++ (one ∷ []))
  table_none cs n h f = rw (last_none t v n cs h, no_ties tied (table cs)) at f

  -- ties started on the last chord of the voice are those that start for this one
  pub table_more : (cs : List Chord) (pre : List Member) (n : ℕ) → length pre ≡ n
      → start_ties lists (last_span t v n cs) tied (pre ++ table cs) ++ tied ≡ pre ++ table (cs ++ (one ∷ []))
  table_more [] pre n e = rw (no_ties tied (pre ++ []), append-nil pre, append-nil tied)
  table_more (d ∷ cs) pre n e =
      go (heard t v cs) (is_of t v d) refl refl
      (table_more cs (pre ++ finished d cs) (n + length d.members)
      (omega (arith, length-append pre (finished d cs), length_finished d cs, e)))
      (λ h. table_none cs 0 h (table_more cs [] 0 refl))
    where
      go : (h o : Bool) → heard t v cs ≡ h → is_of t v d ≡ o
          → start_ties lists (last_span t v (n + length d.members) cs) tied ((pre ++ finished d cs) ++ table cs)
          ++ tied
          ≡ (pre ++ finished d cs) ++ table (cs ++ (one ∷ []))
          → (heard t v cs ≡ false → table cs ++ tied ≡ table (cs ++ (one ∷ [])))
          → start_ties lists
          (pick h (last_span t v (n + length d.members) cs) (pick o (span_of n (length d.members)) no_span)) tied
          (pre ++ (finished d cs ++ table cs)) ++ tied
          ≡ pre ++ (finished d (cs ++ (one ∷ [])) ++ table (cs ++ (one ∷ [])))
      go true o h i f g =
          rw (finished_same d cs (λ b s. heard_same t v d s cs h))
          (rw (append_assoc pre (finished d cs) (table cs), append_assoc pre (finished d cs) (table (cs ++ (one ∷ []))))
          at f)
      go false true h i f g =
          let q = same_voice_lem d.track d.voice t v (and_both (is_beat d.kind) _ i).1 in
          rw (
            finished_tied d cs i h,
            finished_last d cs (rw (q.0, q.1) h),
            sym (g h),
            sym e,
            span_ties tied d.members pre (table cs),
          )
          (together pre (start_all tied d.members) (table cs) tied)
      go false false h i f g =
          rw (
            no_ties tied (pre ++ (finished d cs ++ table cs)),
            sym (g h),
            finished_same d cs (λ b s. absurd (not_of t v d s b i)),
          )
          (together pre (finished d cs) (table cs) tied)

-- ---- a chord that is no kept beat of a voice, or a grace

next_apart : (t v : ℕ) (cs : List Chord) (c : Chord) → is_of t v c ≡ false → next_of t v (cs ++ (c ∷ [])) ≡ next_of t v cs
next_apart t v [] c e = rw e
next_apart t v (d ∷ cs) c e = rw (next_apart t v cs c e)

-- no ties start for a grace
pub table_grace : (t v : ℕ) (ms : List Member) (cs : List Chord)
    → table (cs ++ (record { track = t; voice = v; kind = Grace; members = ms } ∷ [])) ≡ table cs ++ ms
table_grace t v ms [] = append-nil ms
table_grace t v ms (d ∷ cs) =
    rw (
      next_apart d.track d.voice cs (record { track = t; voice = v; kind = Grace; members = ms }) refl,
      table_grace t v ms cs,
      append_assoc (finished d cs) (table cs) ms,
    )

-- ---- numbers

pub total_more : (cs : List Chord) (c : Chord) → total (cs ++ (c ∷ [])) ≡ total cs + length c.members
total_more [] c = omega arith
total_more (d ∷ cs) c = omega (arith, total_more cs c)

heard_more : (t v : ℕ) (cs : List Chord) (c : Chord) → heard t v (cs ++ (c ∷ [])) ≡ heard t v cs || is_of t v c
heard_more t v [] c = go (is_of t v c)
  where
    go : (b : Bool) → b || false ≡ b
    go true = refl
    go false = refl
heard_more t v (d ∷ cs) c = go (is_of t v d) (heard_more t v cs c)
  where
    go : (b : Bool) → heard t v (cs ++ (c ∷ [])) ≡ heard t v cs || is_of t v c
        → b || heard t v (cs ++ (c ∷ [])) ≡ (b || heard t v cs) || is_of t v c
    go true f = refl
    go false f = f

pub last_more : (t v n : ℕ) (cs : List Chord) (c : Chord)
    → last_span t v n (cs ++ (c ∷ []))
    ≡ pick (is_of t v c) (span_of (n + total cs) (length c.members)) (last_span t v n cs)
last_more t v n [] c = let e : n + 0 ≡ n = omega arith in rw e
last_more t v n (d ∷ cs) c =
    let e : n + length d.members + total cs ≡ n + (length d.members + total cs) = omega arith in
    rw (heard_more t v cs c, last_more t v (n + length d.members) cs c, e)
    (go (heard t v cs) (is_of t v c) (span_of (n + (length d.members + total cs)) (length c.members))
    (last_span t v (n + length d.members) cs) (pick (is_of t v d) (span_of n (length d.members)) no_span))
  where
    go : (h o : Bool) (x y z : Span) → pick (h || o) (pick o x y) z ≡ pick o x (pick h y z)
    go true true x y z = refl
    go true false x y z = refl
    go false true x y z = refl
    go false false x y z = refl
