pub mod Examples
pub mod Yields
pub mod Table
