pub mod Harm
