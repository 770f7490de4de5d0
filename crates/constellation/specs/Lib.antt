pub mod Constellation
pub mod Decisions
pub mod Steps
pub mod Slips
