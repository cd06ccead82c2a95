-- The two ways in which the reading of a shelf ends.
use Prim.Native.Nat.{ℕ}
use mathlib.Core.Path.{◌≡◌, refl}
use mathlib.Core.List.{List}
use native.Mathlib.Decide.{dec_le}
use native.Mathlib.Omega.{arith}
use borrow.Author.Tests.{le-leb, lt-leb, lt-ltb, le-ltb}
use lib.Dec.{ltb}
use lib.ListN.{length}
use Rattle.std.specs.Prelude.{Ok, Err}
use Rattle.format.specs.declared.Stop.{Stop}
use Rattle.format.specs.declared.Stop.TheVariants as S
use Rattle.format.specs.Place.{ReadsAs, told}
use Rattle.format.specs.Prog.{ok, stopped, run}
use Rattle.format.specs.Verdict.{LIMIT, stop_verdict, up_to}
use Rattle.format.proofs.Verdict.{end_of, verdict_upto}
use Rattle.score.specs.File.{Opening, opening}
use Rattle.words.specs.Left.{stop_answer}
use Rattle.shelves.specs.Shelf.{shown, not_shown, shelf_of, shelving}

end_is : (d : List ℕ) → shelf_of (end_of d) ≡ not_shown (stop_answer (ltb LIMIT (length d)) S.Ends)
end_is d = elim (dec_le (length d) LIMIT) [
  | yes h ↦ rw (le-leb (length d) LIMIT h, le-ltb LIMIT (length d) h)
  | no h ↦ rw (lt-leb (length d) LIMIT (omega arith), lt-ltb LIMIT (length d) (omega arith))
]

stop_is : (d : List ℕ) (x : Stop) → shelf_of (stop_verdict (end_of d) x) ≡ not_shown (stop_answer (ltb LIMIT (length d)) x)
stop_is d S.Ends = end_is d
stop_is d S.Text = refl
stop_is d S.Version = refl
stop_is d (S.Count which value offset) = refl
stop_is d S.Empty = refl

module _ (d : List ℕ) {s : List ℕ} (is : s ≡ up_to LIMIT d) {A : Type 0} {meant : A → Opening} where
  pub ends_refused : {x : Stop} → ReadsAs meant opening s (Ok 0) (Err x) → not_shown (stop_answer (ltb LIMIT (length d)) x) ≡ shelving d
  unfolding shelving told
  ends_refused {x} f =
      let stops : run opening (up_to LIMIT d) 0 ≡ stopped x = rw is at f.reads in
      rw (verdict_upto opening d, stops, stop_is d x)

  pub ends_shown : {a : A} {n : ℕ} → ReadsAs meant opening s (Ok 0) (Ok (a, n)) → shown (meant a) ≡ shelving d
  unfolding shelving told
  ends_shown {a} {n} f =
      let reads : run opening (up_to LIMIT d) 0 ≡ ok (meant a) n = rw is at f.reads in
      rw (verdict_upto opening d, reads)
