pub mod Heard
pub mod Counted
pub mod HeardLaws
pub mod CountedLaws
pub mod Tables
