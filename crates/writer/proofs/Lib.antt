pub mod Container
pub mod Events
pub mod Lent
pub mod Numbers
pub mod Objects
pub mod Once
pub mod Saying
