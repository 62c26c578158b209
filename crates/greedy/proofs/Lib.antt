pub mod PlanBy
pub mod Unplanned
pub mod Gathered
pub mod Lists
pub mod Round
pub mod FewTips
