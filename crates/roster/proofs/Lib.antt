pub mod Entering
pub mod Leaving
pub mod Digits
pub mod Masks
pub mod Laws
pub mod Making
pub mod Order
