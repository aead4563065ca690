pub mod Problem
pub mod Plan
pub mod Posing
pub mod Inquiry
pub mod Theorems
