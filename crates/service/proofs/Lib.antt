pub mod Bytes
pub mod Ended
pub mod Standing
