pub mod Calls
pub mod Frames
pub mod Inside
pub mod One
pub mod Requests
pub mod Steps
pub mod Utf16
pub mod Rules
