-- The errors of a text that is rejected.
pub mod Accepted
pub mod Colons
pub mod Ipv4Ends
pub mod Complete
pub mod Digits
pub mod GroupTurns
pub mod LiteralEnds
pub mod Literals
pub mod Names
pub mod OnLiterals
pub mod Rooted
pub mod Rows
pub mod Schemes
pub mod Sound
pub mod Whole
