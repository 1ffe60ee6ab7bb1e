-- What the constants and their masks are: the sets of their rules.
pub mod Masks
pub mod Ranges
pub mod Tables
pub mod Percent
pub mod Constants
pub mod Decodable
pub mod LeadBytes
