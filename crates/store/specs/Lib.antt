pub mod Banks
pub mod Joins
pub mod Laws
pub mod Meaning
