pub mod Port
pub mod Valid
