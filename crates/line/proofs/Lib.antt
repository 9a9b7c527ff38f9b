pub mod EventLine
pub mod Spaced
pub mod Turns
