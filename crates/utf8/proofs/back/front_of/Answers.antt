-- The byte that the bytes at the front can be, where its character is there.
use mathlib.Core.Path.{◌≡◌, ◌∙◌, ap}
use mathlib.Core.List.{List}
use lib.ListN.{length, drop}
use borrow.Author.Rules.{rules}
use Prim.Native.Nat.{ℕ}
use Rattle.std.specs.Prelude.{None}
use Rattle.utf8.proofs.Front.{byte_only, front_ascii}
use Rattle.utf8.proofs.Turns.{found_there, found_nowhere}
use Rattle.utf8.proofs.back.front_of.Goals as goal

pub returns-in_err-rest : goal.returns-in_err-rest
returns-in_err-rest c =
    let is : c.from_residual.result ≡ None = search rules in
    let h = rw c.in_err-rest.was at c.strip_prefix.ensures.cases in
    rw is (found_nowhere _ _ c.args.s.now (c.as_slice.ensures ∙ c.character_of-character.ensures) (byte_only _ _ _ c.code_at-code.ensures c.byte_of-byte.ensures) h)

pub returns : goal.returns
returns c =
    front_ascii c.args.s.now (search rules) (search rules)

pub returns-2 : goal.returns-2
returns-2 c =
    let h = c.in_ok-rest.ensures.cases in
    let e = c.as_slice.ensures ∙ c.character_of-character.ensures in
    (found_there _ _ c.args.s.now e (search rules) h.0, h.1 ∙ ap (λ (xs : List ℕ). drop (length xs) c.args.s.now) e)
