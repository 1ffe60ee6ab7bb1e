-- Normal texts, and that each has the meaning it was printed from.
pub mod NormalComponents
pub mod NormalTexts
pub mod NormalPieces
pub mod NormalForms
pub mod WrittenPlaces
pub mod NormalPlaces
pub mod LiteralBlocks
pub mod UnchangedBytes
pub mod UnchangedParts
pub mod UnchangedTexts
pub mod UnchangedPrefixes
pub mod UnchangedPaths
