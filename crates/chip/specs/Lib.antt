pub mod Chip
pub mod Valid
