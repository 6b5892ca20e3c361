pub mod Best
pub mod Order
pub mod Runs
pub mod Series
pub mod Upward
