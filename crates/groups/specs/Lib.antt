pub mod Parts
pub mod Model
pub mod Course
pub mod Laws
pub mod Onward
