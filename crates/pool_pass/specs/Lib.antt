pub mod Book
pub mod Passes
pub mod Rule
