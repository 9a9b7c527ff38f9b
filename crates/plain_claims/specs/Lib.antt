pub mod Agree
pub mod Budget
pub mod Frames
pub mod Never
pub mod Same
pub mod Walks
