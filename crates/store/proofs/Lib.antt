pub mod Kept
pub mod Pairs
pub mod Places
pub mod Views
