pub mod Determined
pub mod PowerOnLaws
