pub mod Building
pub mod Storing
