-- Texts that are valid for a set: how far a scan goes, where a text is cut, what is appended.
pub mod Validity
pub mod MarksInTexts
pub mod Cuts
pub mod Prefixes
pub mod PrefixSteps
pub mod EStrs
pub mod TokenCuts
pub mod Delimiters
pub mod Literals
pub mod Allowed
pub mod Appending
pub mod UnchangedPrefixes
pub mod LongestPrefixes
pub mod RestoredTexts
pub mod Growing
pub mod ScannedRuns
