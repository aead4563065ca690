pub mod Placed
pub mod Closed
pub mod Called
pub mod Asked
pub mod Plans
pub mod Runs
pub mod Choice
pub mod Planning
