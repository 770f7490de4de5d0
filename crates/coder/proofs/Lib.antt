pub mod Lawfulness
pub mod Steps
pub mod Worked
