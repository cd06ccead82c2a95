-- The key, where it stands.
use borrow.Author.Rules.{sfits_of}
use mir.Syntax.{w8}
use mir.Facts.{to_z-of_z}
use Rattle.format.proofs.Rules.{returning}
use Rattle.header.specs.Header.{key}
use Rattle.header.proofs.key_at.Goals as goal

pub returns-then-flags-eq0 : goal.returns-then-flags-eq0
unfolding key
returns-then-flags-eq0 c =
    search returning

pub returns-in_err-fifths : goal.returns-in_err-fifths
unfolding key
returns-in_err-fifths c =
    search returning depth 8 fits 4000

pub returns-in_err-mode : goal.returns-in_err-mode
unfolding key
returns-in_err-mode c =
    search returning depth 8 fits 4000

pub returns : goal.returns
unfolding key
returns c =
    rw (to_z-of_z (sfits_of {w = w8} c.fifths_of.type_inv), c.mode_of.ensures, c.fifths_of.ensures) (search returning depth 8 fits 4000)
