pub mod Keys
pub mod ById
pub mod Free
pub mod Places
pub mod Names
pub mod Indexed
