-- A count, its tunings and the rest.
use native.Mathlib.Omega.{arith}
use Rattle.std.proofs.lemmas.Result.{IfOk-from_err}
use Rattle.format.proofs.Rules.{returning}
use Rattle.track.proofs.Counted.{count_within}
use Rattle.track.specs.Track.{strings}
use Rattle.track.proofs.strings_at.Goals as goal

pub returns-in_err-n : goal.returns-in_err-n
unfolding strings
returns-in_err-n c =
    record { reads = search returning depth 8 fits 4000; count_bound = IfOk-from_err _ _ c.from_residual.ensures.0 }

pub tunings_at-requires : goal.tunings_at-requires
unfolding strings
tunings_at-requires c =
    count_within _ _ _ _ _ c.in_ok-n.ensures

pub returns-in_err-tunings : goal.returns-in_err-tunings
unfolding strings
returns-in_err-tunings c =
    record { reads = search returning depth 8 fits 4000; count_bound = IfOk-from_err _ _ c.from_residual-in_err-tunings.ensures.0 }

pub overflow_sub-n : goal.overflow_sub-n
unfolding strings
overflow_sub-n c =
    count_within _ _ _ _ _ c.in_ok-n.ensures

pub overflow_mul-n : goal.overflow_mul-n
unfolding strings
overflow_mul-n c =
    record { fits = omega arith }

pub returns-in_err-at : goal.returns-in_err-at
unfolding strings
returns-in_err-at c =
    record { reads = search returning depth 8 fits 4000; count_bound = IfOk-from_err _ _ c.from_residual-in_err-at.ensures.0 }

pub overflow_cast-count : goal.overflow_cast-count
unfolding strings
overflow_cast-count c =
    record { fits = omega (arith, count_within _ _ _ _ _ c.in_ok-n.ensures) }

pub returns : goal.returns
unfolding strings
returns c =
    record { reads = search returning depth 8 fits 4000; count_bound = count_within _ _ _ _ _ c.in_ok-n.ensures }
