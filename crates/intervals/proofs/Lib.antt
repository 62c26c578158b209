pub mod Entry
pub mod Read
pub mod Outer
