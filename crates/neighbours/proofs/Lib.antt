pub mod EndingPlaces
pub mod Chords
pub mod KeptChords
pub mod KeptWalk
mod OneTie
mod NextChord
pub mod TieStarts
