-- What the parser accepts is what the grammar says.
pub mod Acceptance
pub mod NextBytes
pub mod ScanStops
pub mod Accepts
pub mod WholeTexts
pub mod ParsedPositions
pub mod WebSchemes
