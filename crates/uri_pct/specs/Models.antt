-- What the code does on its way, as functions of a text. No public contract says it by these.
pub mod ByteRuns
pub mod Scans
pub mod LaneMasks
pub mod TakenBytes
pub mod Unfinished
pub mod Windows
