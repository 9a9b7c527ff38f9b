pub mod Nested
pub mod PieceLaws
