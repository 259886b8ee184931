pub mod Arrivals
pub mod Folds
pub mod Numbers
pub mod Steps
