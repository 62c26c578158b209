pub mod OnTips
