pub mod Follows
pub mod Kept
pub mod Opens
