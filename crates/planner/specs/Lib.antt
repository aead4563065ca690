pub mod Inside
pub mod Promise
pub mod History
pub mod Left
pub mod Refusals
