pub mod Awaited
pub mod Built
pub mod Limits
pub mod Openings
pub mod Recipes
