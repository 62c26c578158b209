pub mod Swapped
pub mod Reading
