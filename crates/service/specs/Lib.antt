pub mod Serving
pub mod Program
