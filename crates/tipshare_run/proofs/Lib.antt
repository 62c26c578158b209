pub mod Begun
pub mod Planned
