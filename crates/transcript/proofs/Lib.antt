pub mod DecimalLaws
pub mod Determined
pub mod LineLaws
pub mod ListLaws
