-- The state of the code that removes dot segments: no RFC has this.
pub mod Directories
pub mod Pieces
