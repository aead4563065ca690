pub mod Ends
pub mod Asking
