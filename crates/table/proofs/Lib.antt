pub mod Numbers
pub mod Merging
pub mod Tryings
pub mod Choosing
pub mod Following
pub mod Worksheets
pub mod Whole
