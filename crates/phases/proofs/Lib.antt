pub mod Determined
pub mod FrameLaws
pub mod PhasesLaws
