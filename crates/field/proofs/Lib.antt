pub mod Tests
pub mod Tables
pub mod Field
pub mod Powers
