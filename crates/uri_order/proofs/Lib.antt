pub mod Equivalences
pub mod Hashes
pub mod InStep
pub mod TotalOrders
