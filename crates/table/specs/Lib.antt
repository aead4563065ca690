pub mod Candidates
pub mod Codes
pub mod Ahead
pub mod Steps
pub mod Columns
pub mod OneTrain
