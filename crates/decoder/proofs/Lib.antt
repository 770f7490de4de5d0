pub mod Taking
pub mod Messages
pub mod Data
pub mod Clean
