-- A tie starts at a member exactly where the next kept beat of its voice says so.
use Prim.Native.Nat.{ℕ, ◌+◌, ◌<◌}
use native.Mathlib.Omega.{arith}
use mathlib.Core.Path.{◌≡◌, refl, sym, ap, subst, ◌∙◌}
use mathlib.Core.Bool.{Bool, true, ◌&&◌}
use mathlib.Core.List.{List, [], ◌∷◌, ◌++◌}
use lib.ListN.{length, get_or}
use Rattle.format.specs.Prog.{ok, run}
use Rattle.format.specs.Yields.{Bytes}
use Rattle.model.specs.declared.Member.{Member}
use Rattle.model.specs.declared.Row.{Row}
use Rattle.score.specs.Score.{no_member, scored}
use Rattle.score.specs.Reading.{Score}
use Rattle.refine.proofs.All.{All}
use Rattle.neighbours.specs.Ties.{is_beat, members_of, gathered, next_members, starts_at}
use Rattle.neighbours.proofs.Chords.{Chord, next_of, finished}
use Rattle.neighbours.proofs.Chords.{table, length_finished}
use Rattle.neighbours.proofs.KeptChords.{Seen, Laid, FreshChord}
use Rattle.neighbours.proofs.KeptWalk.{OfChords, file_walked}
use Rattle.neighbours.proofs.OneTie.{bare, answers_same}
use Rattle.neighbours.proofs.NextChord.{finished_starts, bare_finished, seen_members, length_pre, all_is, seen_count, next_seen}

-- what is to be shown of a row that these rows follow
abbrev Said : Row → List Row → List Member → Type 0
Said r after ms =
    (length (members_of r ms) ≡ r.members.count)
    × (r.rest ≡ true → r.members.count ≡ 0)
    × ((i : ℕ) → i < r.members.count → (get_or (members_of r ms) i no_member).ties.start ≡ starts_at r after ms i)

row_said : (n : ℕ) (r : Row) (after : List Row) (c : Chord) (cs : List Chord) (pre : List Member) → length pre ≡ n
    → Seen n r c → Laid (n + length c.members) after cs → FreshChord c → Said r after (pre ++ table (c ∷ cs))
row_said n r after c cs pre e s f q =
    let is = seen_members c cs pre n e r s in
    let count = seen_count c cs pre n e r s in
    let own : List Member = next_of c.track c.voice cs in
    let tied : List Member = next_members c.track c.voice after (pre ++ table (c ∷ cs)) in
    let next : bare tied ≡ bare own =
    rw (all_is c cs pre n e r s) at
    (next_seen c.track c.voice (n + length c.members) after cs (pre ++ finished c cs)
    (length_pre c cs pre n e r s) f) in (
      rw is (length_finished c cs ∙ sym count),
      λ d. count ∙ ap length (s.rest d),
      λ i h. rw (is, s.kind, s.track, s.voice)
          (finished_starts c cs i q (omega (arith, h, count))
          ∙ ap (λ (b : Bool). is_beat c.kind && b)
          (answers_same c.members (finished c cs) i own tied (sym (bare_finished c cs)) (sym next))),
    )

rows_said : (n : ℕ) (before after : List Row) (r : Row) (cs : List Chord) (pre : List Member) → length pre ≡ n
    → Laid n (before ++ (r ∷ after)) cs → All FreshChord cs → Said r after (pre ++ table cs)
rows_said n [] after r [] pre e f q = absurd f
rows_said n [] after r (c ∷ cs) pre e f q = row_said n r after c cs pre e f.0 f.1 q.0
rows_said n (b ∷ before) after r [] pre e f q = absurd f
rows_said n (b ∷ before) after r (c ∷ cs) pre e f q =
    rw (all_is c cs pre n e b f.0) at
    (rows_said (n + length c.members) before after r cs (pre ++ finished c cs) (length_pre c cs pre n e b f.0)
    f.1 q.1)

all_gathered : (n : ℕ) (rs : List Row) (cs : List Chord) (pre : List Member) → length pre ≡ n → Laid n rs cs
    → gathered rs (pre ++ table cs) ≡ table cs
all_gathered n [] [] pre e f = refl
all_gathered n [] (c ∷ cs) pre e f = absurd f
all_gathered n (r ∷ rs) [] pre e f = absurd f
all_gathered n (r ∷ rs) (c ∷ cs) pre e f =
    rw (seen_members c cs pre n e r f.0)
    (ap (λ (l : List Member). finished c cs ++ l)
    (rw (all_is c cs pre n e r f.0) at
    (all_gathered (n + length c.members) rs cs (pre ++ finished c cs) (length_pre c cs pre n e r f.0) f.1)))

-- ---- of any file that is read
module _ (s : List ℕ) (bytes : Bytes s) (x : Score) (n : ℕ) (e : run scored s 0 ≡ ok x n) where
  abbrev rows : List Row
  rows = x.bars.rows

  abbrev members : List Member
  members = x.bars.members

  said : (before after : List Row) (r : Row) → rows ≡ before ++ (r ∷ after) → Said r after members
  said before after r is =
      let f : OfChords x.song.counts.tracks x.bars = file_walked s bytes x n e in
      rw f.1.members
      (rows_said 0 before after r f.0 [] refl (subst (λ (l : List Row). Laid 0 l f.0) is f.1.rows)
      f.1.fresh)

  -- the members of a row are in the table
  pub members_there : (before after : List Row) (r : Row) → rows ≡ before ++ (r ∷ after)
      → length (members_of r members) ≡ r.members.count
  members_there before after r is = (said before after r is).0

  -- a rest has none
  pub rest_without_members : (before after : List Row) (r : Row) → rows ≡ before ++ (r ∷ after) → r.rest ≡ true
      → r.members.count ≡ 0
  rest_without_members before after r is = (said before after r is).1

  -- the members of the rows, row after row, are the whole table: it has no others and no gaps
  pub members_in_row_order : gathered rows members ≡ members
  members_in_row_order =
      let f : OfChords x.song.counts.tracks x.bars = file_walked s bytes x n e in
      rw f.1.members (all_gathered 0 rows f.0 [] refl f.1.rows)

  -- of every row, with the rows after it: a tie starts at a member exactly where the next kept beat of its voice says
  -- so, and at no grace
  pub tie_starts : (before after : List Row) (r : Row) → rows ≡ before ++ (r ∷ after) → (i : ℕ) → i < r.members.count
      → (get_or (members_of r members) i no_member).ties.start ≡ starts_at r after members i
  tie_starts before after r is = (said before after r is).2
