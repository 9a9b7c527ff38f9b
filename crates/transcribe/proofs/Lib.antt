pub mod Calls
pub mod Listed
pub mod Noting
pub mod Told
pub mod Walking
