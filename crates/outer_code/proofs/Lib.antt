pub mod Parity
pub mod Blocks
pub mod Filled
