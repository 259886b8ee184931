pub mod Fields
pub mod Numbers
pub mod Names
pub mod Says
pub mod Asked
pub mod Laws
pub mod Examples
