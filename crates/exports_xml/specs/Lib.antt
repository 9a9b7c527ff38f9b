pub mod Computed
pub mod Xml
pub mod XmlLaws
