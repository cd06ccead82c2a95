-- Ties, members, then the row.
use mathlib.Core.Path.{◌∙◌}
use Rattle.beat.specs.Words.{beat_in}
use Rattle.score.specs.Rows.{beat_row}
use Rattle.draft.specs.Chord.{chord_in}
use Rattle.words.specs.Voices.{voice_in}
use Rattle.into_rows.proofs.Gathering.{members_of}
use Rattle.into_rows.proofs.Rowing.{own_kept}
use Rattle.into_rows.proofs.keep.RowTables.keep_own.Goals as goal

pub returns-clause-row : goal.returns-clause-row
returns-clause-row c =
    let g = c.args.setting.now in let h = c.args.heard.now in let t = c.args.self.now in
    let b = beat_in h.s.now h.v h.beat.now h.notes.now in
    let xs = chord_in h.s.now h.v h.notes.now h.chord.now in
    let ms = members_of h.s.now h.v h.notes.now g.board g.flat h.chord.now in
    let sums = c.company_of-company.ensures h.s.now h.v g.board g.flat in
    own_kept h.s.now t.kept (voice_in c.args.voice.now) t.rows.now t.members.now t.points.now ms c.beat_row-draft.result
    (c.keep_row.ensures.row ms t.members.now sums) {row = beat_row g.place g.board g.flat g.running b xs}
    (rw c.last-last.ensures at (c.start_ties.ensures h.s.now h.v)) (c.keep_row.ensures.members ∙ c.add_members.ensures h.s.now h.v)
    (c.beat_row-draft.ensures h.s.now g.board g.flat)
