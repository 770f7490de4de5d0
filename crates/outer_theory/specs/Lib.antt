pub mod Sums
pub mod Syndromes
pub mod Correction
