pub mod Periods
pub mod Windows
