pub mod Removal
pub mod Target
pub mod Deviations
pub mod Models
pub mod Resolving
