pub mod CasesLaws
pub mod Determined
pub mod LadderLaws
