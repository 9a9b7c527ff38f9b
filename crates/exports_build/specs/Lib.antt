pub mod Build
pub mod BuildCallsLaws
pub mod BuildLaws
pub mod Computed
