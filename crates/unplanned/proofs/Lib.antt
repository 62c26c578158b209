pub mod InOrder
pub mod Found
pub mod Dropped
pub mod Parts
mod Unread
