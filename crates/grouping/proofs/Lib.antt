pub mod Following
pub mod Taking
pub mod Rows
pub mod Ending
