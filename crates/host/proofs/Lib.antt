pub mod CodesLaws
pub mod Determined
pub mod HostLaws
