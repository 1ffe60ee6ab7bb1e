pub mod AsciiHosts
pub mod AsciiReferences
