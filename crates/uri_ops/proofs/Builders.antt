-- What each step of a builder makes of its text.
pub mod Drafting
pub mod BuilderAuthorities
pub mod BuilderSteps
pub mod BuilderDrafts
pub mod BuilderHosts
pub mod BuilderGrowth
pub mod Built
pub mod PartRules
pub mod DraftHosts
pub mod DraftPositions
