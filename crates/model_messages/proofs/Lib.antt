pub mod Laws
pub mod TakenBack
pub mod Padded
