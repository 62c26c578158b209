pub mod PairTable
