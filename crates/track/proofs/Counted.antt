-- A count that was read is within its limit.
use Prim.Native.Nat.{ℕ, ◌+◌, ◌≤◌}
use mathlib.Core.Path.{◌≡◌}
use mathlib.Core.List.{List}
use Rattle.format.specs.declared.Counted.{Counted}
use Rattle.format.specs.Place.{Place, told, Reads, ReadsAs}
use Rattle.std.specs.Prelude.{Ok, Err}
use Rattle.format.specs.Count.{limit_of, word_at}
use Rattle.format.specs.Prog.{ret}
use Rattle.format.specs.Fields.{count}
use Rattle.format.proofs.Run.{ret_ok, count_ok, clash}
use Rattle.format.proofs.Yields.{within_limit}

pub count_within : (which : Counted) (s : List ℕ) (from : Place) (w n : ℕ) → Reads (count which) s from (Ok (w, n)) → w ≤ limit_of which
unfolding count told
count_within which s (Ok m) w n g =
    let k = count_ok s m n w which (λ v. ret v) g.reads in
    rw (ret_ok s (m + 4) n w (word_at s m) k.2).0 at (within_limit which (word_at s m) k.1)
count_within which s (Err x) w n g = let e = g.reads in clash (cc)
