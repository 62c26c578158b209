pub mod Product
pub mod Sums
pub mod Narrow
