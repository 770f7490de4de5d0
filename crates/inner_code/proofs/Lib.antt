pub mod Coding
pub mod Rates
