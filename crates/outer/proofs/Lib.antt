pub mod Table
pub mod Division
pub mod Encoding
