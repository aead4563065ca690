pub mod Refusals
pub mod Links
pub mod Fouls
pub mod Ways
pub mod Model
pub mod Layouts
