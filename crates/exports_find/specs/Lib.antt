pub mod Computed
pub mod Find
pub mod FindLaws
pub mod PathAppend
pub mod PathAppendLaws
