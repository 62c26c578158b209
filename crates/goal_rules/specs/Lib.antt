pub mod Goal
pub mod Tables
pub mod Check
pub mod Examples
