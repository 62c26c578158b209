pub mod Counting
pub mod Scores
