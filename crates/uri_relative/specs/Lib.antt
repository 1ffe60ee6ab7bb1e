pub mod Relative
pub mod Leading
pub mod Shortest
pub mod Forms
pub mod Rule
pub mod Relativizers
pub mod Relativized
