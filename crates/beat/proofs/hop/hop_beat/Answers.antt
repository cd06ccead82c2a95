-- Its flags, its notes, and its tail.
use native.Mathlib.Omega.{arith}
use Rattle.beat.proofs.Hops.{hop_stopped, hop_short, hop_marked, hop_notes_not, hop_to}
use Rattle.beat.proofs.hop.hop_beat.Goals as goal

pub returns-in_default : goal.returns-in_default
returns-in_default c =
    hop_stopped _ c.in_default.is

pub returns-then-s-at : goal.returns-then-s-at
returns-then-s-at c =
    hop_short _ c.in-Ok.is (omega arith)

pub returns-then-s-at-lt-PLAIN_BEAT : goal.returns-then-s-at-lt-PLAIN_BEAT
returns-then-s-at-lt-PLAIN_BEAT c =
    hop_short _ c.in-Ok.is (omega arith)

pub returns-then-s-at-ne0 : goal.returns-then-s-at-ne0
returns-then-s-at-ne0 c =
    hop_marked _ c.in-Ok.is (omega arith) c.if-s-at-ne0.true

pub returns-in_err-past : goal.returns-in_err-past
returns-in_err-past c =
    rw c.from_residual.ensures (hop_notes_not _ c.in-Ok.is (omega arith) c.if-s-at-ne0.false c.hop_notes.ensures c.in_err-past.was)

pub tail_of-requires : goal.tail_of-requires
tail_of-requires c =
    omega (arith, (c.hop_notes.ensures.to _ c.in_ok-past.was).near)

pub returns : goal.returns
returns c =
    hop_to _ c.in-Ok.at (omega arith) c.if-s-at-ne0.false (c.hop_notes.ensures.to _ c.in_ok-past.was) c.tail_of.ensures.reads c.tail_of.ensures.near c.in-Ok.is
