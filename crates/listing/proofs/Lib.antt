pub mod Orders
pub mod Members
pub mod Picks
pub mod Sorts
pub mod Writes
