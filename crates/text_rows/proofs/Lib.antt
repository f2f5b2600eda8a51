pub mod FirstPiece
pub mod Reading
