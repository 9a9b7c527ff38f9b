pub mod FileLaws
pub mod CheckLaws
pub mod WriteLaws
pub mod ReadLaws
pub mod DeepLaws
pub mod Cases
