pub mod Others
pub mod Follow
pub mod Early
pub mod Kept
pub mod Settled
pub mod Ranges
pub mod Ranks
pub mod Laws
