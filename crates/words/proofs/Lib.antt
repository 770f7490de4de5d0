pub mod Bridge
pub mod Numbers
