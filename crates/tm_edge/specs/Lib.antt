pub mod Fault
pub mod Feed
pub mod Lines
pub mod Buffer
pub mod KeptText
