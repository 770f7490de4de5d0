pub mod Small
pub mod SmallLaws
