pub mod Starred
pub mod PanelStarred
