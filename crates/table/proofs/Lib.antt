pub mod Listed
pub mod Parts
pub mod Columns
