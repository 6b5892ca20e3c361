pub mod CommandsLaws
pub mod Determined
pub mod TableLaws
