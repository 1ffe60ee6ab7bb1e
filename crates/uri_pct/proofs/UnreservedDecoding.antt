-- Decoding of unreserved octets: the decoded text, how it is printed, and a second decoding.
pub mod Printing
pub mod Formatting
pub mod DecodedTokens
pub mod DecodedTwice
pub mod Octets
pub mod Representations
mod DecodedRows
