-- The components of any text: where they are cut, and their positions.
pub mod Cuts
pub mod Marks
pub mod Splits
pub mod Recompose
pub mod Relative
pub mod Hierarchies
pub mod Places
pub mod Fragments
mod ComponentRows
pub mod ComponentPositions
