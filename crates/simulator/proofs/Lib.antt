pub mod Determined
pub mod SimulatorLaws
