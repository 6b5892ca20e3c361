pub mod Determined
pub mod TicksLaws
pub mod ValidLaws
