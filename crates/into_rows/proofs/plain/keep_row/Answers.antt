-- Table by table.
use mathlib.Core.Path.{sym}
use lib.ListN.{take}
use lib.Seq.{length-take-le}
use Rattle.beat.specs.Words.{beat_in}
use Rattle.draft.specs.Chord.{chord_in}
use Rattle.words.specs.Voices.{voice_in}
use Rattle.into_rows.proofs.Rowing.{so_many}
use Rattle.into_rows.proofs.Straight.{rest_counted, plain_kept}
use Rattle.into_rows.proofs.plain.keep_row.Goals as goal

pub slice_bounds-sounding-end : goal.slice_bounds-sounding-end
slice_bounds-sounding-end c =
    sym (length-take-le c.args.size c.args.chord.now c.requires.1)

pub company_of-company-requires : goal.company_of-company-requires
company_of-company-requires c =
    so_many c.args.chord.now c.args.size c.requires.0 c.requires.1

pub add_members-requires : goal.add_members-requires
add_members-requires c =
    so_many c.args.chord.now c.args.size c.requires.0 c.requires.1

pub returns-clause-row : goal.returns-clause-row
returns-clause-row c =
    λ s v. let a = c.args in let g = a.setting.now in let t = a.tables.now in
    let b = beat_in s v a.b.now a.notes.now in
    let xs = chord_in s v a.notes.now (take a.size a.chord.now) in
    let sums = c.company_of-company.ensures s v g.board g.flat in
    let rest = rest_counted g.place g.board g.flat a.mark b xs sums in
    plain_kept g.place g.board g.flat a.mark b s xs t.kept (voice_in a.voice.now) t.rows.now t.members.now t.points.now sums
    (rw c.hammer.ensures at (c.turn_hammer.ensures g.place g.board g.flat a.mark b xs sums))
    (c.store_plain.ensures s v g.board g.flat sums)
    (rw c.last.ensures at (c.start_ties.ensures s v))
    (c.add_members.ensures s v)
    c.span_of-own.ensures
    c.plus.ensures
    c.plus-2.ensures
    c.points_kept.ensures
    (rw c.run.ensures at (c.run_left-run.ensures t.kept.rows g.place g.board g.flat a.mark b xs rest))
    c.put_hammer.ensures c.put_last.ensures c.put_run.ensures
