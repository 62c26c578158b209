pub mod Picks
pub mod Sums
pub mod Firsts
pub mod RankBits
pub mod Whole
pub mod Boards
