-- Table by table.
use Rattle.reader.proofs.answer.has_room.Goals as goal

pub returns : goal.returns
returns c =
    rw (c.room.ensures, c.room-2.ensures, c.room-3.ensures, c.room-4.ensures, c.room-5.ensures, c.room-6.ensures)
