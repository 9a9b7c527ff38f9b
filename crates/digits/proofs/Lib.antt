pub mod Negative
pub mod Turns
