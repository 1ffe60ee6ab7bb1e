-- Characters and ill-formed pieces of bytes: Unicode, section 3.9.
pub mod Characters
pub mod Pieces
pub mod AsciiOctets
pub mod CharacterPieces
pub mod IllFormedLengths
pub mod Lossy
pub mod Runs
pub mod Unfinished
pub mod PartPieces
pub mod FirstBytes
