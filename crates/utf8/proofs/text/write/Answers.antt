-- Character by character.
use native.Mathlib.Omega.{arith}
use Prim.Native.Nat.{ℕ, ◌+◌}
use mathlib.Core.Path.{◌≡◌, ◌∙◌, ap, sym}
use mathlib.Core.List.{List}
use lib.ListN.{length, take}
use Rattle.utf8.proofs.Turns.{written_length, written_out, write_on}
use Rattle.utf8.proofs.text.write.Goals as goal

pub store-requires : goal.store-requires
store-requires c =
    let e : take c.len-len.result c.bytes-bytes.result ≡ c.character_of-character.result = rw c.len-len.ensures c.bytes-bytes.ensures in
    let n = ap (λ (x : List ℕ). length x) (e ∙ c.character_of-character.ensures) in
    let l = written_length c.args.text.now c.loop-byte.byte-index c.loop-byte-test.true in
    omega (arith, n, l, c.loop-byte.invariant.0, c.loop-byte.auto.out)

pub loop-byte-preserved : goal.loop-byte-preserved
loop-byte-preserved c =
    let e : take c.len-len.result c.bytes-bytes.result ≡ c.character_of-character.result = rw c.len-len.ensures c.bytes-bytes.ensures in
    let n = ap (λ (x : List ℕ). length x) c.character_of-character.ensures in
    let l = written_length c.args.text.now c.loop-byte.byte-index c.loop-byte-test.true in
    let m = ap (λ (k : ℕ). c.loop-byte.at + k) (c.len-len.ensures ∙ sym (ap (λ (x : List ℕ). length x) e)) in (
      omega (arith, n, l, c.len-len.ensures, c.loop-byte.invariant.0),
      rw c.store.ensures
          (write_on c.args.text.now c.loop-byte.out c.loop-byte.at c.loop-byte.byte-index c.loop-byte-test.true _ _ (e ∙ c.character_of-character.ensures) m)
          ∙ c.loop-byte.invariant.1,
    )

pub returns : goal.returns
returns c =
    rw (written_out c.args.text.now c.loop-byte.byte-index c.loop-byte-test.false) at c.loop-byte.invariant.1
