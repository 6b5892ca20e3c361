pub mod Determined
pub mod SamplesLaws
