pub mod BackLaws
pub mod BytesLaws
pub mod ChipLaws
pub mod Determined
pub mod MemoryLaws
pub mod RecordLaws
pub mod TripLaws
