pub mod Tables
pub mod Stages
pub mod Finding
