pub mod State
pub mod Calls
pub mod Junior
pub mod Before
