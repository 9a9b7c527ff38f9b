pub mod Checking
pub mod Stack
pub mod Turning
