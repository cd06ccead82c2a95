-- A note that loses nothing.
use Rattle.std.specs.Prelude.{◌≡◌, []}
use Rattle.note.specs.declared.NoteRead.{NoteRead}
use Rattle.score.specs.Losses.{note_losses, built_losses}

pub record Lossless (n : NoteRead) : Type 0 where
  pub reading : note_losses n ≡ []
  pub building : built_losses n ≡ []
