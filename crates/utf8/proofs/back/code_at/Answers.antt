-- The code point that these bytes can be, and so the one that is there.
use borrow.Author.Tests.{lt-ltb, le-ltb}
use borrow.Author.Rules.{rules}
use Rattle.utf8.proofs.Front.{code_is}
use Rattle.utf8.proofs.back.code_at.Goals as goal

pub returns-then-first-lt128 : goal.returns-then-first-lt128
returns-then-first-lt128 c =
    λ n l e. code_is c.args.s.now c.from-first.result c.from-second.result c.from-third.result _ n (search rules) (search rules) (search rules) (simp (lt-ltb _ _ c.if-first-lt128.true)) l e

pub returns-then-first-lt224 : goal.returns-then-first-lt224
returns-then-first-lt224 c =
    λ n l e. code_is c.args.s.now c.from-first.result c.from-second.result c.from-third.result _ n (search rules) (search rules) (search rules) (simp (le-ltb _ _ c.if-first-lt128.false, lt-ltb _ _ c.if-first-lt224.true)) l e

pub returns : goal.returns
returns c =
    λ n l e. code_is c.args.s.now c.from-first.result c.from-second.result c.from-third.result _ n (search rules) (search rules) (search rules) (simp (le-ltb _ _ c.if-first-lt128.false, le-ltb _ _ c.if-first-lt224.false)) l e
