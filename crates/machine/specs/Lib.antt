pub mod Asked
pub mod Progress
pub mod Phases
pub mod Lines
pub mod Printing
pub mod Inputs
