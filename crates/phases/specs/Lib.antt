pub mod Frame
pub mod Phases
pub mod Valid
