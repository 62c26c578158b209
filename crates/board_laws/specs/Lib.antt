pub mod Format
pub mod Before
pub mod Unmounted
