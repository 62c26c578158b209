pub mod Numbers
pub mod ByTips
pub mod Windows
pub mod Cases
