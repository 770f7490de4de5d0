pub mod InnerWords
pub mod Receiving
