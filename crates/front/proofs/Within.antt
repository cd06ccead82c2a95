-- The number of tracks that was read is within its limit.
use Prim.Native.Nat.{ℕ, ◌≤◌}
use native.Mathlib.Omega.{arith}
use mathlib.Core.Path.{◌≡◌, refl, sym, ap, ◌∙◌}
use mathlib.Core.Bool.{Bool, true, false}
use mathlib.Core.List.{List}
use lib.Dec.{eqb}
use Rattle.format.specs.declared.Counted.TheVariants as C
use Rattle.format.specs.Place.{Place, told, Reads, ReadsAs}
use Rattle.std.specs.Prelude.{Ok, Err}
use Rattle.format.specs.Text.{pick}
use Rattle.format.specs.Prog.{ret, refuse, nothing_inside, bind, Res, ok, stopped, run, when_eq}
use Rattle.format.specs.Fields.{count}
use Rattle.format.proofs.Run.{and_then, run_bind, ret_ok, refuse_ok, clash}
use Rattle.header.specs.declared.Counts.{Counts}
use Rattle.header.specs.Header.{not_empty, counts}
use Rattle.track.proofs.Counted.{count_within}

not_empty_lem : (b t : ℕ) (s : List ℕ) (at n : ℕ) (c : Counts) → run (not_empty b t) s at ≡ ok c n → c.tracks ≡ t
unfolding not_empty when_eq
not_empty_lem b t s at n c e = go (eqb b 0) (eqb t 0) e
  where
    go : (p q : Bool) → run (pick p (refuse nothing_inside) (pick q (refuse nothing_inside) (ret (record { bars = b; tracks = t })))) s at ≡ ok c n → c.tracks ≡ t
    go true q e = refuse_ok s at n c nothing_inside e
    go false true e = refuse_ok s at n c nothing_inside e
    go false false e = sym (ap (λ (x : Counts). x.tracks) (ret_ok s at n c (record { bars = b; tracks = t }) e).0)

second : (b : ℕ) (s : List ℕ) (at n : ℕ) (c : Counts) (x : Res ℕ) → run (count C.Tracks) s at ≡ x → and_then x (λ t m. run (not_empty b t) s m) ≡ ok c n → c.tracks ≤ 100
unfolding told
second b s at n c (ok t m) d e =
    let h : t ≤ 100 = count_within C.Tracks s (Ok at) t m (record { reads = d }) in
    let k : c.tracks ≡ t = not_empty_lem b t s m n c e in
    omega arith
second b s at n c (stopped r) d e = clash (cc)

first : (s : List ℕ) (n : ℕ) (c : Counts) (x : Res ℕ) → and_then x (λ b m. run (bind (count C.Tracks) (λ t. not_empty b t)) s m) ≡ ok c n → c.tracks ≤ 100
first s n c (ok b m) e = second b s m n c (run (count C.Tracks) s m) refl (sym (run_bind (count C.Tracks) (λ t. not_empty b t) s m) ∙ e)
first s n c (stopped r) e = clash (cc)

pub tracks_within : (s : List ℕ) (from : Place) (c : Counts) (n : ℕ) → Reads counts s from (Ok (c, n)) → c.tracks ≤ 100
unfolding counts told
tracks_within s (Ok m) c n g =
    first s n c (run (count C.Bars) s m) (sym (run_bind (count C.Bars) (λ b. bind (count C.Tracks) (λ t. not_empty b t)) s m) ∙ g.reads)
tracks_within s (Err x) c n g = let e = g.reads in clash (cc)
