pub mod Shown
pub mod Lookup
pub mod Rules
pub mod Growth
