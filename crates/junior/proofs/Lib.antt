pub mod Sides
pub mod Choice
pub mod Search
pub mod Passed
pub mod Laid
