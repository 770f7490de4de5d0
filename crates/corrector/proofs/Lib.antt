pub mod Running
pub mod Shares
pub mod Steps
pub mod Evaluating
pub mod Folding
pub mod Slices
pub mod Blocks
