pub mod Runs
pub mod Units
pub mod Count
pub mod Scalars
pub mod Writing
