pub mod Contents
pub mod Roles
pub mod Words
