pub mod Common
pub mod Places
mod Searches
mod GrownTrees
pub mod FoundTexts
pub mod Texts
pub mod Noted
pub mod Several
pub mod InWords
pub mod Ids
pub mod Theorems
