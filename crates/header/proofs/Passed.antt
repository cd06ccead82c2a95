-- Document 01, "Bytes passed over": what a bar header passes over.
use Prim.Native.Nat.{ℕ, ◌+◌, ◌≤◌}
use native.Mathlib.Omega.{arith}
use mathlib.Core.Path.{◌≡◌}
use mathlib.Core.List.{List}
use borrow.Author.Tests.{le-leb}
use Rattle.format.specs.Prog.{ok, run, when_le}
use Rattle.format.proofs.Run.{ret_ok}
use Rattle.model.specs.declared.Time.{Time}
use Rattle.header.specs.declared.Header.{Header}
use Rattle.header.specs.declared.Tail.{Tail}
use Rattle.header.specs.Header.{header_tail, header}
use Rattle.format.specs.Passed.{Skips}
use Rattle.format.proofs.Passed.{both_read, skips_first, skips_after, skips_le}
use Rattle.format.proofs.PassedFields.{skip_ok, skip_passed}

tail_last : {s : List ℕ} {at : ℕ} (v flags : ℕ) {rest : Tail} {k : ℕ} → 500 ≤ v
    → run (header_tail v flags) s at ≡ ok rest (k + 1) → Skips s k 1 (header_tail v flags) at
unfolding header_tail when_le
tail_last {s = s} {at = at} v flags {rest = rest} {k = k} l e =
    skips_le _ _ l
    (both_read _ _ s at (k + 1) rest (rw (le-leb 500 v l) at e) (λ _ a d e.
    both_read _ _ s a (k + 1) rest e (λ _ b f e.
    both_read _ _ s b (k + 1) rest e (λ _ c g e.
    both_read _ _ s c (k + 1) rest e (λ _ m h e.
    let z : c ≡ k = omega (arith, skip_ok s c 1 m h, (ret_ok s m (k + 1) rest _ e).1) in
    skips_after _ _ _ _ _ d (skips_after _ _ _ _ _ f (skips_after _ _ _ _ _ g (rw z (skips_first _ (skip_passed 1))))))))))

-- "a header's last byte (v500 on)"
pub last_byte : {s : List ℕ} {at : ℕ} (v : ℕ) (before : Time) {h : Header} {k : ℕ} → 500 ≤ v
    → run (header v before) s at ≡ ok h (k + 1) → Skips s k 1 (header v before) at
unfolding header
last_byte {s = s} {at = at} v before {h = h} {k = k} l e =
    both_read _ _ s at (k + 1) h e (λ flags a d e.
    both_read _ _ s a (k + 1) h e (λ _ b f e.
    both_read _ _ s b (k + 1) h e (λ _ c g e.
    both_read _ _ s c (k + 1) h e (λ rest m j e.
    let z : m ≡ k + 1 = (ret_ok s m (k + 1) h _ e).1 in
    skips_after _ _ _ _ _ d (skips_after _ _ _ _ _ f (skips_after _ _ _ _ _ g
    (skips_first _ (tail_last v flags l (rw z at j)))))))))
