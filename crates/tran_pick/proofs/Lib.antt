pub mod Better
pub mod Found
pub mod Law
pub mod Serial
pub mod Nothing
