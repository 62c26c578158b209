pub mod Ruling
pub mod Starred
