pub mod Agreement
pub mod Example
