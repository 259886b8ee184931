pub mod Calls
pub mod RecipeCalls
