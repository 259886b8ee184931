pub mod Found
pub mod Shows
pub mod SoundNames
pub mod Walks
pub mod Ruled
pub mod Uses
pub mod Grown
