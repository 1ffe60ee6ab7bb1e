-- The four kinds: their sets, and when a text of one is of another.
pub mod FourKinds
pub mod WiderKinds
pub mod Conversions
pub mod GrammarTexts
