pub mod Answers
pub mod Lines
pub mod Rules
pub mod Table
pub mod Goal
pub mod Junior
pub mod Along
pub mod Exact
