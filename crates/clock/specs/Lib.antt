pub mod Counters
pub mod Numbers
pub mod Sizes
pub mod Ticks
pub mod Valid
pub mod Walks
