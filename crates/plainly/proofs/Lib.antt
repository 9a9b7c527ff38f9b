pub mod Counting
pub mod Objects
pub mod Roots
pub mod Scalars
pub mod Turns
