-- The bytes passed are counted and stored, those that are left go behind them.
use native.Mathlib.Omega.{arith}
use mathlib.Core.Path.{◌∙◌, ap, refl, sym}
use borrow.Author.Tests.{eqb-true}
use Prim.Native.Nat.{ℕ}
use lib.ListN.{length}
use mathlib.Core.List.{List}
use Rattle.utf8.specs.Back.{back}
use Rattle.utf8.proofs.Turns.{left_over, back_refused, counted_none, shorter, count_on, store_on, counted_all, stored_all, stored_none}
use Rattle.utf8.proofs.back.read.Goals as goal

pub loop-left-init : goal.loop-left-init
loop-left-init c =
    (omega arith, counted_none (back c.args.text.now), refl)

pub returns-in_err-byte-clause-counted : goal.returns-in_err-byte-clause-counted
returns-in_err-byte-clause-counted c =
    let h = left_over _ (sym c.loop-left-test.ensures) in
    c.from_residual.ensures ∙ rw (back_refused c.loop-left.left.now h c.in_err-byte.ensures) at c.loop-left.invariant.1

pub returns-in_err-byte-clause-stored : goal.returns-in_err-byte-clause-stored
returns-in_err-byte-clause-stored c =
    let h = left_over _ (sym c.loop-left-test.ensures) in
    λ bs g. stored_none _ _ _ (back_refused c.loop-left.left.now h c.in_err-byte.ensures) _ _ bs c.loop-left.invariant.2 g

pub loop-left-smaller : goal.loop-left-smaller
loop-left-smaller c =
    let h = left_over _ (sym c.loop-left-test.ensures) in
    let e = c.in_ok-byte.ensures in
    let s = shorter c.loop-left.left.now h _ e.0 in
    let n = ap (λ (x : List ℕ). length x) e.1 in
    omega arith

pub loop-left-preserved : goal.loop-left-preserved
loop-left-preserved c =
    let h = left_over _ (sym c.loop-left-test.ensures) in
    let e = c.in_ok-byte.ensures in
    let s = shorter c.loop-left.left.now h _ e.0 in
    let n = ap (λ (x : List ℕ). length x) e.1 in (
      omega (arith, s, n, c.loop-left.invariant.0),
      rw e.1 (count_on c.loop-left.left.now h _ e.0 c.loop-left.n ∙ c.loop-left.invariant.1),
      rw (e.1, c.store.ensures) (store_on c.loop-left.left.now h _ e.0 c.loop-left.out c.loop-left.n ∙ c.loop-left.invariant.2),
    )

pub returns-clause-counted : goal.returns-clause-counted
returns-clause-counted c =
    let h = eqb-true _ _ (sym c.loop-left-test.ensures) in
    counted_all c.loop-left.left.now c.args.text.now c.loop-left.n (omega (arith, h)) c.loop-left.invariant.1

pub returns-clause-stored : goal.returns-clause-stored
returns-clause-stored c =
    let h = eqb-true _ _ (sym c.loop-left-test.ensures) in
    λ bs g. stored_all c.loop-left.left.now c.args.text.now c.loop-left.n (omega (arith, h)) _ _ bs c.loop-left.invariant.2 g
