pub mod Sending
pub mod Cases
