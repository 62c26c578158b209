pub mod Striking
pub mod Early
