pub mod Bytes
pub mod Fields
pub mod Numbers
pub mod Selections
pub mod Settings
pub mod Valid
