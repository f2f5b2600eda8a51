pub mod Lists
pub mod Decoding
pub mod Kept
