pub mod Frames
pub mod Valid
