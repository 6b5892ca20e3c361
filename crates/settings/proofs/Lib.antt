pub mod BytesLaws
pub mod Determined
pub mod FieldsLaws
pub mod SelectionsLaws
