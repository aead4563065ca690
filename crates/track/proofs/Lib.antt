pub mod Linking
pub mod Fouling
pub mod Passing
pub mod Made
pub mod Slots
pub mod Ends
pub mod Laws
pub mod Held
