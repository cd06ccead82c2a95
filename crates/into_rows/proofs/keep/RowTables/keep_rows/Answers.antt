-- The row of graces, then the beat's own.
use mathlib.Core.Path.{sym}
use lib.ListN.{take}
use lib.Seq.{length-take-le}
use Rattle.beat.specs.Words.{beat_in}
use Rattle.draft.specs.Chord.{chord_in}
use Rattle.words.specs.Words.{words}
use Rattle.into_rows.specs.Tables.{rowed_in}
use Rattle.into_rows.proofs.Rowing.{so_many, both_rows}
use Rattle.into_rows.proofs.keep.RowTables.keep_rows.Goals as goal

pub slice_bounds-sounding-end : goal.slice_bounds-sounding-end
slice_bounds-sounding-end c =
    sym (length-take-le c.args.size c.args.heard.now.chord.now c.requires.1)

pub keep_graces-requires : goal.keep_graces-requires
keep_graces-requires c =
    so_many c.args.heard.now.chord.now c.args.size c.requires.0 c.requires.1

pub keep_own-requires : goal.keep_own-requires
keep_own-requires c =
    so_many c.args.heard.now.chord.now c.args.size c.requires.0 c.requires.1

pub returns-clause-rows : goal.returns-clause-rows
returns-clause-rows c =
    let g = c.args.setting.now in let h = c.args.heard.now in
    let b = beat_in h.s.now h.v h.beat.now h.notes.now in
    let xs = chord_in h.s.now h.v h.notes.now (take c.args.size h.chord.now) in
    rw (both_rows (words h.s.now) g.place g.board g.flat g.running b xs (rowed_in c.args.self.now c.args.voice.now))
    (rw c.keep_graces.ensures.rows at c.keep_own.ensures.row)
