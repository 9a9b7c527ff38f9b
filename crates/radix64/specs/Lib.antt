pub mod Base64
pub mod Base64Laws
pub mod Computed
pub mod Examples
pub mod GroupLaws
