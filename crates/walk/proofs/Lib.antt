pub mod Cuts
pub mod Scans
pub mod Whole
