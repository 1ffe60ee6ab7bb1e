-- Normal texts that are read from their ends, in blocks.
pub mod Blocks
pub mod LastAscii
pub mod LastDecodables
pub mod LastOctets
pub mod LastTokens
pub mod NormalParts
pub mod NormalTokens
pub mod PathBack
pub mod SegmentsLeft
