pub mod Words
pub mod Joint
pub mod Turns
pub mod Bridge
pub mod Gathering
pub mod Tasks
pub mod Rows
pub mod Rests
