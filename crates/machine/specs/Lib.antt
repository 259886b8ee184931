pub mod Kinds
pub mod Posts
pub mod Refusals
pub mod States
pub mod Sweeps
pub mod Worlds
