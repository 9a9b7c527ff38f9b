pub mod Computed
pub mod Examples
pub mod Line
pub mod LineLaws
pub mod Piece
pub mod Put
