pub mod Determined
pub mod PinsLaws
