pub mod Fits
pub mod Bounds
pub mod Modulations
