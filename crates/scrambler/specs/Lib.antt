pub mod Scrambler
pub mod Eight
