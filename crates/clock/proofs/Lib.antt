pub mod CounterLaws
pub mod Determined
pub mod QuotientLaws
pub mod ValidLaws
pub mod WalkLaws
