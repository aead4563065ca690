pub mod Turning
pub mod Few
pub mod Histories
pub mod Printing
pub mod Taking
