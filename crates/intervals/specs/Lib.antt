pub mod Splits
pub mod Outer
