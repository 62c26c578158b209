pub mod Subsets
pub mod Exact
pub mod Table
pub mod Chains
pub mod Examples
