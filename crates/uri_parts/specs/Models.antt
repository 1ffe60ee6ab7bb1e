-- What the code does on its way, as functions of a text. No public contract says it by these.
pub mod AuthorityParsing
pub mod Literals
pub mod LiteralGroups
pub mod Cursors
pub mod Parsing
pub mod ParseErrors
