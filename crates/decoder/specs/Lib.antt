pub mod Taken
pub mod Blocks
pub mod Hearing
pub mod Receiving
pub mod Steps
