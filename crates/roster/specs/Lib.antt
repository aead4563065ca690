pub mod Trains
pub mod Book
pub mod Model
