pub mod Adding
pub mod Partly
pub mod Scores
pub mod Trying
