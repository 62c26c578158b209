pub mod Sets
pub mod Flat
