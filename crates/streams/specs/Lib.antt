pub mod Lengths
pub mod Sent
pub mod Streams
