-- From the ends of two passes on words to what reading a file answers: the first, on any tables, says the rooms that
-- are needed; the second enters the file in the caller's.
use Prim.Native.Nat.{ℕ, ◌*◌, ◌≤◌}
use mathlib.Core.Path.{◌≡◌, refl, ap, sym, ◌∙◌}
use mathlib.Core.Bool.{Bool, true, false}
use mathlib.Core.List.{List}
use native.Mathlib.Decide.{dec_le}
use native.Mathlib.Omega.{arith}
use borrow.Author.Tests.{le-leb, lt-leb, lt-ltb, le-ltb}
use lib.Dec.{leb, ltb}
use lib.ListN.{length, get_or}
use mir.Syntax.{w8}
use mir.Val.{Fits}
use Rattle.format.specs.declared.Stop.{Stop}
use Rattle.format.specs.declared.Stop.TheVariants as S
use Rattle.format.specs.Verdict.{LIMIT, whole, truncated, too_long, stop_verdict}
use Rattle.format.specs.Prog.{ok, stopped}
use Rattle.format.specs.Text.{pick}
use Rattle.format.specs.Yields.{Bytes}
use Rattle.format.proofs.Run.{clash}
use Rattle.format.proofs.Verdict.{end_of}
use Rattle.model.specs.declared.Sizes.{Sizes}
use Rattle.model.specs.Answers.{read_answer, refusal, no_room_answer, losses_of}
use Rattle.model.specs.Kinds.{tempo_of}
use Rattle.entries.specs.Words.{tempo_at}
use Rattle.score.specs.Reading.{Tables, Result, Score, needed, enough, song_of, refused, result_of, reading}
use Rattle.words.specs.Lent.{Lent}
use Rattle.words.specs.Words.{part_stride}
use Rattle.refine.proofs.Passes.{one_pass, tables_after, Entered, Passed}
use Rattle.refine.proofs.Passes.{stopped_pass, whole_pass, same_score}
use Rattle.words.specs.Left.{needed_by, entries_by, stop_answer, lent_with}
use Rattle.refine.proofs.Rooms.{WordScore}

-- a slice of u8 is a file of bytes: what is known of each element, for all
pub known_bytes : (d : List ℕ) → ((i : ℕ) → Fits w8 (get_or d i 0)) → Bytes d
known_bytes d h = λ i. (h i).fits

-- the rooms that a pass says to be needed
abbrev pub rooms_by : WordScore → Sizes
rooms_by y = needed_by y.song.counts y.bars.tally

-- the result of a pass that entered the file, with its bytes used
abbrev pub entered : WordScore → ℕ → Result
entered z used =
    record {
      answer =
          read_answer (song_of z.song (tempo_of (get_or z.bars.bars tempo_at 0)) used)
          (entries_by z.song.counts z.bars.tally) (rooms_by z) (losses_of z.bars.tally.losses);
      tables = tables_after z;
    }

-- ---- a stop

end_is : (d : List ℕ) (t : Tables)
    → result_of t (end_of d) ≡ refused (refusal (stop_answer (ltb LIMIT (length d)) S.Ends)) t
end_is d t = elim (dec_le (length d) LIMIT) [
  | yes h ↦ rw (le-leb (length d) LIMIT h, le-ltb LIMIT (length d) h)
  | no h ↦ rw (lt-leb (length d) LIMIT (omega arith), lt-ltb LIMIT (length d) (omega arith))
]

stop_is : (d : List ℕ) (t : Tables) (x : Stop)
    → result_of t (stop_verdict (end_of d) x) ≡ refused (refusal (stop_answer (ltb LIMIT (length d)) x)) t
stop_is d t S.Ends = end_is d t
stop_is d t S.Text = refl
stop_is d t S.Version = refl
stop_is d t (S.Count which value offset) = refl
stop_is d t S.Empty = refl

-- no stop is a whole file
end_not_whole : (b : Bool) (x : Score) (n : ℕ) → pick b truncated too_long ≡ whole x n → ⊥
end_not_whole true x n e = clash (cc)
end_not_whole false x n e = clash (cc)

stop_not_whole : (d : List ℕ) (why : Stop) (x : Score) (n : ℕ) → stop_verdict (end_of d) why ≡ whole x n → ⊥
stop_not_whole d S.Ends x n e = end_not_whole (leb (length d) LIMIT) x n e
stop_not_whole d S.Text x n e = clash (cc)
stop_not_whole d S.Version x n e = clash (cc)
stop_not_whole d (S.Count which value offset) x n e = clash (cc)
stop_not_whole d S.Empty x n e = clash (cc)

-- ---- the returns

same_room : {m n : Sizes} {b : Bool} (t : Tables) → m ≡ n → enough m t ≡ b → enough n t ≡ b
same_room t e h = sym (ap (λ (k : Sizes). enough k t) e) ∙ h

module _ (d : List ℕ) (bytes : Bytes d) (t : Tables) (v : Lent) (own : 100 * part_stride ≤ length v.parts) where
  pub refused_is : (x : Stop) → one_pass d v ≡ stopped x
      → reading d t ≡ refused (refusal (stop_answer (ltb LIMIT (length d)) x)) t
  unfolding reading
  refused_is x e = rw (stopped_pass d bytes v own x e) (stop_is d t x)

  module _ (y : WordScore) (n : ℕ) (first : one_pass d v ≡ ok y n) where
    pub no_room_is : enough (rooms_by y) t ≡ false → reading d t ≡ refused (no_room_answer (rooms_by y)) t
    unfolding reading
    no_room_is h =
        let p : Passed d v y n = whole_pass d bytes v own y n first in
        rw (p.is, p.needs, same_room t p.needs h)

    module _ (parts : List ℕ) (wide : 100 * part_stride ≤ length parts) where
      -- a file that one pass reads to its end stops no other
      pub never_stops : (x : Stop) → one_pass d (lent_with t parts) ≡ stopped x → ⊥
      never_stops x e =
          let p : Passed d v y n = whole_pass d bytes v own y n first in
          stop_not_whole d x p.score n (sym (stopped_pass d bytes (lent_with t parts) wide x e) ∙ p.is)

      pub read_is : enough (rooms_by y) t ≡ true → (z : WordScore) (m : ℕ) → one_pass d (lent_with t parts) ≡ ok z m
          → reading d t ≡ entered z m
      unfolding reading
      read_is h z m e =
          let p : Passed d v y n = whole_pass d bytes v own y n first in
          let q : Passed d (lent_with t parts) z m = whole_pass d bytes (lent_with t parts) wide z m e in
          let k : enough (needed q.score) t ≡ true =
          same_room t (p.needs ∙ ap needed (same_score d v (lent_with t parts) y z n m p q).0) h in
          let f : Entered (lent_with t parts) q.score z = q.entered k in
          rw (q.is, k) λ i. record {
            answer =
                read_answer (song_of (q.song i) (sym f.tempo i) m)
                (sym f.entries i) (sym q.needs i) (losses_of (sym q.losses i));
            tables = sym f.tables i;
          }
