pub mod Finding
pub mod Asking
pub mod Running
pub mod Testing
pub mod Passing
