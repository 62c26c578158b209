pub mod Two
pub mod Choice
pub mod Counts
pub mod Holders
pub mod Junior
