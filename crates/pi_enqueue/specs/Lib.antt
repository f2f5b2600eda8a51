pub mod KeptTable
pub mod Lists
pub mod Grants
pub use Rattle.model_data.specs.Cycle
pub use Rattle.model_data.specs.EnqueueRequests
pub use Rattle.model_data.specs.Modes
pub use Rattle.model_data.specs.Table
