pub mod Panel
pub mod Merged
pub mod BothFiles
pub mod BothPlans
pub mod Refused
pub mod Few
