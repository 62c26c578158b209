pub mod Swapped
pub mod There
pub mod ReadLines
