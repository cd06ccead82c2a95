-- By how the first pass ends, and by the room.
use Rattle.std.proofs.Common.{rules, ◌≡◌}
use Rattle.format.proofs.Rules.{said_no, said_yes}
use Rattle.refine.proofs.Returns.{known_bytes}
use Rattle.reader.proofs.Ends.{ends_refused, ends_short, ends_read}
use Rattle.reader.proofs.read.Goals as goal

pub returns-in-Err : goal.returns-in-Err
returns-in-Err c =
    rw (c.refused.ensures, c.refusal_of.ensures) (ends_refused _ (known_bytes c.args.«data».now c.shared_slice_known-1.given) _ c.up_to-s.ensures c.in-Err.ensures)

pub returns-then-not-has_room : goal.returns-then-not-has_room
returns-then-not-has_room c =
    rw (c.no_room.ensures, c.rooms_of-rooms.ensures) (ends_short _ (known_bytes c.args.«data».now c.shared_slice_known-1.given) _ c.up_to-s.ensures c.in-Ok.ensures (rw c.rooms_of-rooms.ensures at (said_no _ c.has_room.ensures c.if-not-has_room.true-raw)))

pub returns : goal.returns
returns c =
    let left = c.fill.new.lent in
    let bars : c.bars-2-1.given.0 ≡ left.bars.now = search rules in
    let tracks : c.tracks-2-1.given.0 ≡ left.tracks.now = search rules in
    let rows : c.rows-2-1.given.0 ≡ left.rows.now = search rules in
    let members : c.members-2-1.given.0 ≡ left.members.now = search rules in
    let points : c.points-2-1.given.0 ≡ left.points.now = search rules in
    let texts : c.texts-2-1.given.0 ≡ left.texts.now = search rules in
    rw (bars, tracks, rows, members, points, texts)
    (ends_read _ (known_bytes c.args.«data».now c.shared_slice_known-1.given) _ c.up_to-s.ensures c.in-Ok.ensures (rw c.rooms_of-rooms.ensures at (said_yes _ c.has_room.ensures c.if-not-has_room.false-raw)) _ _ c.fill.ensures.fills)
