pub mod Swapped
pub mod Narrowed
