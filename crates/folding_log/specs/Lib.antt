pub mod Logs
pub mod Slots
