pub mod Determined
pub mod ValidLaws
