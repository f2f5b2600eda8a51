mod Digits
mod Printable
mod Places
mod FieldTexts
mod Latest
mod FieldLines
pub mod Enough
mod Screens
mod Stops
