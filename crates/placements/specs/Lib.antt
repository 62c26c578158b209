pub mod Repeated
pub mod Totals
pub mod Good
pub mod Plans
pub mod Keep
pub mod PairSum
pub mod Examples
