pub mod Outer
pub mod Parity
pub mod Blocks
