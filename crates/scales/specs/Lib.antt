pub mod Measure
pub mod Steps
pub mod Pairs
pub mod Bytes
pub mod Runs
pub mod StepLaws
pub mod PairLaws
pub mod Words
