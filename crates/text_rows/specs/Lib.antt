pub mod Pieces
pub mod LowestRule
pub mod Numbers
pub mod Lines
pub mod Operands
pub mod Names
pub mod Lists
pub mod Refusals
