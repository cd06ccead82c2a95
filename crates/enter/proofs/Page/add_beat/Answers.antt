-- Plain, or call by call. The tables of rows are lent on, and given back as they were left.
use Rattle.std.proofs.Common.{rules, ◌≡◌}
use Rattle.beat.specs.Words.{beat_in}
use Rattle.enter.proofs.Steps.{adds}
use Rattle.enter.proofs.Plainly.{adds_plain}
use Rattle.enter.proofs.Page.add_beat.Goals as goal

pub returns-then-is_plain-clause-beat : goal.returns-then-is_plain-clause-beat
returns-then-is_plain-clause-beat c =
    let a = c.args in let p = a.self.now in
    let left = c.sound_plain-running.new.tables in
    let rows : c.self-then-is_plain-3-1.given.0 ≡ left.rows.now = search rules in
    let members : c.self-then-is_plain-2-1.given.0 ≡ left.members.now = search rules in
    let points : c.self-then-is_plain-1.given.0 ≡ left.points.now = search rules in
    let plain = c.is_plain.ensures c.if-is_plain.true a.s.now a.v in
    λ parts lent.
    rw (rows, members, points)
    (adds_plain a.s.now a.place (beat_in a.s.now a.v a.scratch.now.beat a.scratch.now.notes) p.tally p.bars.now p.rows.now p.members.now p.points.now p.texts.now parts plain
    c.plus-self.ensures
    (c.sound_plain-running.ensures.sounded a.s.now a.v parts plain lent))

pub returns-clause-beat : goal.returns-clause-beat
returns-clause-beat c =
    let a = c.args in let p = a.self.now in
    let left = c.sound-sounded.new.tables in
    let rows : c.self-5-1.given.0 ≡ left.rows.now = search rules in
    let members : c.self-4-1.given.0 ≡ left.members.now = search rules in
    let points : c.self-3-1.given.0 ≡ left.points.now = search rules in
    let beat = c.sound-sounded.ensures.beat in
    let notes = c.sound-sounded.ensures.notes in
    let text = rw beat at (c.enter_text-self.ensures a.v a.scratch.now.notes) in
    λ parts lent.
    rw (rows, members, points)
    (adds a.s.now a.place (beat_in a.s.now a.v a.scratch.now.beat a.scratch.now.notes) p.tally p.bars.now p.rows.now p.members.now p.points.now p.texts.now parts
    (c.sound-sounded.ensures.sounded parts lent)
    text.0
    text.1
    (rw (c.tempo.ensures, beat) at c.set_first_tempo.ensures)
    (rw (beat, notes) at (c.count_losses.ensures a.s.now))
    (rw (beat, notes) at (c.count_rooms.ensures a.v)))
