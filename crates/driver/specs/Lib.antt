pub mod Ranges
pub mod Refusals
