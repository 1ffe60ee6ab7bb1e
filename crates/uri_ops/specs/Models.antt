-- What the code does on its way, as functions of a text. No public contract says it by these.
pub mod Directories
pub mod DraftPlaces
pub mod EncodedPlaces
pub mod LeadingSegments
pub mod SegmentModes
pub mod Places
pub mod RuledComponents
pub mod TargetPieces
pub mod FoundTargets
pub mod Decodings
pub mod Unchanged
pub mod Written
pub mod TargetCases
