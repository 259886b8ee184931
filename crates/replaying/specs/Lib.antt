pub mod Replays
pub mod Covered
pub mod Lines
