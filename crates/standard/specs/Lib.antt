pub mod Profiles
pub mod Refusals
pub mod Modulations
