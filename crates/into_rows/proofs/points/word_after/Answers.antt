-- Byte by byte.
use Prim.Native.Nat.{◌+◌}
use native.Mathlib.Omega.{arith}
use mathlib.Core.Path.{◌≡◌}
use Rattle.note.specs.Points.{word}
use Rattle.into_rows.proofs.points.word_after.Goals as goal

pub returns : goal.returns
unfolding word
returns c =
    let at = c.args.at in
    let k = c.args.k in
    let second : at + (k + 1) ≡ at + k + 1 = omega arith in
    let third : at + (k + 2) ≡ at + k + 2 = omega arith in
    let fourth : at + (k + 3) ≡ at + k + 3 = omega arith in
    rw (
      c.byte_after-a.ensures.0,
      c.byte_after-b.ensures.0,
      c.byte_after-c.ensures.0,
      c.byte_after-d.ensures.0,
      second,
      third,
      fourth,
    )
