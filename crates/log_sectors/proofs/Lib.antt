pub mod Links
pub mod Sealing
