pub mod Counts
pub mod Looks
pub mod Magic
pub mod Numbers
pub mod Short
pub mod Rules
