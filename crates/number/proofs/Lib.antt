pub mod Copies
pub mod Minus
pub mod Turns
