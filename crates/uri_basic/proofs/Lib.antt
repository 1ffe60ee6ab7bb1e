pub mod Common
pub mod Buffers
pub mod Steps
pub mod Segments
pub mod Places
pub mod Kept
pub mod Targets
pub mod TargetPlaces
pub mod SameRemovals
pub mod SameTargets
pub mod DotSegments
pub mod LiteralDots
pub mod RelativePaths
pub mod Relativized
mod TargetRows
