pub mod Holders
pub mod Examples
