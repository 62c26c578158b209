pub mod Told
pub mod Refusal
pub mod Reasons
