pub mod Counts
pub mod HiddenOrder
pub mod Boards
pub mod Example
pub mod Files
pub mod ExactOrder
pub mod ExactBoards
pub mod ExactFiles
