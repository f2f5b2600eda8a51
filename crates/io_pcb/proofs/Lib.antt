pub mod Changed
pub mod Kept
