-- Normal texts that are read from their ends, in blocks.
pub mod Addresses
pub mod Blocks
pub mod Held
pub mod LastTokens
pub mod Literals
pub mod NormalComponents
pub mod OctetsBack
pub mod PathBack
pub mod SegmentsLeft
