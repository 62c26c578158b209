pub mod Flagged
pub mod Marks
pub mod Windows
pub mod Readied
pub mod Answers
pub mod TipAnswers
pub mod CasesTold
