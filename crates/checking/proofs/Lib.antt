pub mod Claim
pub mod Bounds
pub mod Ends
pub mod Laws
pub mod Turn
pub mod Spread
pub mod Gather
pub mod ByRanks
