pub mod Numbered
pub mod TipNumbered
pub mod Windowed
pub mod CasesTold
