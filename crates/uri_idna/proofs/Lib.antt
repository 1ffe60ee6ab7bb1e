pub mod AsciiNames
pub mod Names
pub mod Replaced
pub mod Offered
