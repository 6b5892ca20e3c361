pub mod AnswersLaws
pub mod Determined
pub mod ValidLaws
