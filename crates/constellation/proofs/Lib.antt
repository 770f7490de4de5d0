pub mod Ranks
pub mod Mapping
pub mod Nearness
pub mod Hearing
