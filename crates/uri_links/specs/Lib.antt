pub mod Outcomes
pub mod OutcomesInWords
pub mod Registered
pub mod Registers
pub mod SearchTrees
