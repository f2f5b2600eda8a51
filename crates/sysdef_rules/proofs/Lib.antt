pub mod Cuts
pub mod Counted
pub mod Fronts
pub mod Ancestors
pub mod Indexed
