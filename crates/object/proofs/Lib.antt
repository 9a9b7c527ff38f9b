pub mod Containers
pub mod Wide
pub mod EndLaws
pub mod Rules
