pub mod RehearsalLaws
