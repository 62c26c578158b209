pub mod Answers
pub mod Files
pub mod Panel
pub mod Rules
