-- None, or one row.
use mathlib.Core.Path.{◌∙◌}
use borrow.Author.Tests.{not-true, not-false}
use Rattle.beat.specs.Words.{beat_in}
use Rattle.words.specs.Words.{words}
use Rattle.words.specs.Voices.{voice_in}
use Rattle.into_rows.specs.Tables.{rowed_in}
use Rattle.into_rows.proofs.Gracing.{graces_in, graces_as}
use Rattle.into_rows.proofs.Rowing.{no_graces, graces_kept}
use Rattle.into_rows.proofs.keep.RowTables.keep_graces.Goals as goal

pub returns-then-not-x-clause-rows : goal.returns-then-not-x-clause-rows
returns-then-not-x-clause-rows c =
    let g = c.args.setting.now in let h = c.args.heard.now in
    no_graces g.place g.board g.flat (beat_in h.s.now h.v h.beat.now h.notes.now).range (words h.s.now) (graces_in h.s.now h.v h.notes.now h.chord.now)
    (rowed_in c.args.self.now c.args.voice.now)
    (c.graces_of-x.ensures h.s.now h.v) (not-true _ c.if-not-x.true)

pub returns-clause-rows : goal.returns-clause-rows
returns-clause-rows c =
    let g = c.args.setting.now in let h = c.args.heard.now in let t = c.args.self.now in
    let gs = graces_in h.s.now h.v h.notes.now h.chord.now in
    let counted = c.add_graces-count.ensures.number h.s.now h.v in
    let sums = c.grace_company-company.ensures h.s.now h.v g.board g.flat counted in
    graces_kept g.place g.board g.flat _ h.s.now t.kept (voice_in c.args.voice.now) t.rows.now t.members.now t.points.now gs
    (c.graces_of-x.ensures h.s.now h.v) (not-false _ c.if-not-x.false) (rw c.range.ensures at c.grace_row-draft.ensures)
    (c.keep_row.ensures.members ∙ c.add_graces-count.ensures.stored h.s.now h.v)
    (c.keep_row.ensures.row (graces_as g.board g.flat gs) t.members.now sums)
