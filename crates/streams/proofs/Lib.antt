pub mod BitsLaws
pub mod Determined
pub mod Sending
pub mod SentLaws
pub mod StreamsLaws
pub mod Writing
