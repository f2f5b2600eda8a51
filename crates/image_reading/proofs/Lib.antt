mod Differing
mod Pieces
pub mod Sectors
mod Areas
mod Logs
pub mod Ranges
pub mod Fronts
pub mod Shapes
pub mod CutOff
pub mod Walk
pub mod Told
pub mod Given
pub mod Taken
pub mod Right
