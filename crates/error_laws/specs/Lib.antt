pub mod ViablePrefixes
pub mod ViablePrefixRows
