pub mod Fronts
pub mod Befores
pub mod Parts
pub mod Digits
pub mod Letters
pub mod Orders
pub mod Joins
