pub mod Stages
pub mod Receiving
pub mod Laws
pub mod Words
