pub mod Marking
pub mod Ways
pub mod Reaching
pub mod Stuck
