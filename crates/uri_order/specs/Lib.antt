pub mod Ends
pub mod HashedTexts
pub mod NormalForms
pub mod NormalOrders
pub mod TotalOrders
