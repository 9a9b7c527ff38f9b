pub mod Heads
pub mod Putting
pub mod Runs
pub mod Changed
