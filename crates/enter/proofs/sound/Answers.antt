-- Call by call.
use mathlib.Core.Path.{refl}
use Rattle.beat.specs.Words.{beat_in}
use Rattle.enter.proofs.Steps.{sounds}
use Rattle.enter.proofs.sound.Goals as goal

pub returns-clause-sounded : goal.returns-clause-sounded
returns-clause-sounded c =
    λ parts lent. let a = c.args in let g = a.setting.now in let t = a.tables.now in
    sounds a.s.now g.place g.flat (beat_in a.s.now a.v a.scratch.now.beat a.scratch.now.notes) t.kept t.rows.now t.members.now t.points.now parts
    lent.on
    lent.remembers
    lent.runs
    (c.hear-count.ensures.chord a.s.now a.v)
    (c.hear-count.ensures.frets a.s.now a.v)
    c.keep_beat.ensures.beat
    refl
    (c.running_after.ensures a.s.now a.v)
    refl
