pub mod Lines
pub mod Kinds
pub mod Frames
pub mod Text
pub mod Replies
pub mod Cuts
pub mod Cutters
