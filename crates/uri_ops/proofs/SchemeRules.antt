-- What the rules of schemes make of meanings, texts and targets.
pub mod RuledMeanings
pub mod RuledTexts
pub mod RuledParts
pub mod RuledCopies
pub mod RuledTargets
mod RulesRows
