pub mod Labels
pub mod Orders
pub mod Paths
pub mod Same
pub mod Stamps
