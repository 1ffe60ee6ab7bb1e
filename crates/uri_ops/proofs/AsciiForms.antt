-- Texts without characters past ASCII: the octets of each are in its place.
pub mod EncodedTokens
pub mod EncodedDecodings
pub mod EncodedPaths
pub mod EncodedComponents
pub mod EncodedTargets
pub mod EncodedAuthorities
pub mod EncodedMeanings
pub mod AsciiTexts
pub mod EncodedRuns
pub mod EncodedPlaces
