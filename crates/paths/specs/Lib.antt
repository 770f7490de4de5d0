pub mod Model
pub mod Ties
pub mod Answers
pub mod Registers
