pub mod Mending
pub mod Rules
