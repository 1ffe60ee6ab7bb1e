-- What is known of the texts and of the sets of each kind.
pub mod AsciiSets
pub mod Separations
pub mod KindSets
pub mod ComponentRules
pub mod GrammarTexts
