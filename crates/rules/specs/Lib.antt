pub mod Conflicts
pub mod Lawful
