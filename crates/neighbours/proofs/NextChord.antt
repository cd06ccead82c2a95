-- Where ties start on a chord, and which chord of the tables is the next of its voice.
use Prim.Native.Nat.{ℕ, zero, suc, ◌+◌, ◌<◌}
use native.Mathlib.Omega.{arith}
use mathlib.Core.Path.{◌≡◌, refl, sym, ◌∙◌}
use mathlib.Core.Bool.{Bool, true, false, ◌&&◌, ◌||◌}
use mathlib.Core.List.{List, [], ◌∷◌, ◌++◌, append_assoc}
use lib.Dec.{eqb-suc-zero}
use lib.ListN.{length, get_or, length-append}
use lib.Seq.{take-append_seam, drop-append_seam}
use Rattle.format.specs.Text.{pick}
use Rattle.model.specs.declared.Member.{Member}
use Rattle.model.specs.declared.Row.{Row}
use Rattle.score.specs.Page.{span_of}
use Rattle.score.specs.Score.{no_member}
use Rattle.refine.proofs.All.{all_get}
use Rattle.refine.proofs.Shown.{pick_both}
use Rattle.neighbours.specs.Ties.{is_beat, members_of, next_members, first_answers, answers_one}
use Rattle.neighbours.proofs.Chords.{start_one, tie_one, start_all, length-tie, Chord, is_of, next_of, finished}
use Rattle.neighbours.proofs.Chords.{table, length_finished}
use Rattle.neighbours.proofs.KeptChords.{Seen, Laid, Unstarted, FreshChord}
use Rattle.neighbours.proofs.OneTie.{or_false, or_assoc, bare, bare_tie, bare_all, answers_same, one_starts}

one_tie : (t : Member) (ms : List Member) (i : ℕ) → i < length ms
    → (get_or (tie_one t ms) i no_member).ties.start
    ≡ (get_or ms i no_member).ties.start || (t.ties.end && first_answers t ms i)
one_tie t ms i h = go t.ties.end
  where
    go : (b : Bool) → (get_or (pick b (start_one t ms) ms) i no_member).ties.start
        ≡ (get_or ms i no_member).ties.start || (b && first_answers t ms i)
    go true = one_starts t ms i h
    go false = sym (or_false (get_or ms i no_member).ties.start)

all_starts : (next ms : List Member) (i : ℕ) → i < length ms
    → (get_or (start_all next ms) i no_member).ties.start ≡ (get_or ms i no_member).ties.start || answers_one ms i next
all_starts [] ms i h = sym (or_false (get_or ms i no_member).ties.start)
all_starts (t ∷ next) ms i h =
    all_starts next (tie_one t ms) i (omega (arith, h, length-tie t ms))
    ∙ rw (one_tie t ms i h, answers_same (tie_one t ms) ms i next next (bare_tie t ms) refl)
    (or_assoc (get_or ms i no_member).ties.start (t.ties.end && first_answers t ms i) (answers_one ms i next))

pub finished_starts : (c : Chord) (cs : List Chord) (i : ℕ) → FreshChord c → i < length c.members
    → (get_or (finished c cs) i no_member).ties.start
    ≡ is_beat c.kind && answers_one c.members i (next_of c.track c.voice cs)
finished_starts c cs i f h = go (is_beat c.kind)
  where
    go : (b : Bool)
        → (get_or (pick b (start_all (next_of c.track c.voice cs) c.members) c.members) i no_member).ties.start
        ≡ b && answers_one c.members i (next_of c.track c.voice cs)
    go true =
        all_starts (next_of c.track c.voice cs) c.members i h
        ∙ rw (all_get Unstarted c.members i no_member f h)
    go false = all_get Unstarted c.members i no_member f h

pub bare_finished : (c : Chord) (cs : List Chord) → bare (finished c cs) ≡ bare c.members
bare_finished c cs =
    pick_both (λ l. bare l ≡ bare c.members) (is_beat c.kind)
    (start_all (next_of c.track c.voice cs) c.members) c.members
    (bare_all (next_of c.track c.voice cs) c.members) refl

-- ---- in the tables

span_count : (n k : ℕ) → (span_of n k).count ≡ k
span_count n zero = refl
span_count n (suc k) = rw eqb-suc-zero

-- the members of a row are those of its chord
row_members : (r : Row) (pre own post : List Member) (n : ℕ) → length pre ≡ n → r.members ≡ span_of n (length own)
    → members_of r (pre ++ (own ++ post)) ≡ own
row_members r pre [] post n e f = rw f
row_members r pre (m ∷ own) post n e f =
    rw (f, eqb-suc-zero (length own), sym e, drop-append_seam pre (m ∷ (own ++ post))) (take-append_seam (m ∷ own) post)

-- a chord in the table, with the members before it
module _ (c : Chord) (cs : List Chord) (pre : List Member) (n : ℕ) (e : length pre ≡ n) (r : Row) (s : Seen n r c) where
  abbrev all : List Member
  all = pre ++ table (c ∷ cs)

  pub seen_members : members_of r all ≡ finished c cs
  seen_members =
      row_members r pre (finished c cs) (table cs) n e (rw (length_finished c cs) s.members)

  pub length_pre : length (pre ++ finished c cs) ≡ n + length c.members
  length_pre = omega (arith, length-append pre (finished c cs), length_finished c cs, e)

  pub all_is : (pre ++ finished c cs) ++ table cs ≡ all
  all_is = append_assoc pre (finished c cs) (table cs)

  pub seen_count : r.members.count ≡ length c.members
  seen_count = rw s.members (span_count n (length c.members))

pub next_seen : (t v n : ℕ) (rs : List Row) (cs : List Chord) (pre : List Member) → length pre ≡ n → Laid n rs cs
    → bare (next_members t v rs (pre ++ table cs)) ≡ bare (next_of t v cs)
next_seen t v n [] [] pre e f = refl
next_seen t v n [] (c ∷ cs) pre e f = absurd f
next_seen t v n (r ∷ rs) [] pre e f = absurd f
next_seen t v n (r ∷ rs) (c ∷ cs) pre e f =
    let s : Seen n r c = f.0 in
    rw (s.kind, s.track, s.voice, seen_members c cs pre n e r s)
    (go (is_of t v c)
    (rw (all_is c cs pre n e r s) at
    (next_seen t v (n + length c.members) rs cs (pre ++ finished c cs) (length_pre c cs pre n e r s) f.1)))
  where
    go : (b : Bool) → bare (next_members t v rs (pre ++ table (c ∷ cs))) ≡ bare (next_of t v cs)
        → bare (pick b (finished c cs) (next_members t v rs (pre ++ table (c ∷ cs))))
        ≡ bare (pick b c.members (next_of t v cs))
    go true g = bare_finished c cs
    go false g = g
