pub mod Order
pub mod Boards
pub mod Files
pub mod Exact
