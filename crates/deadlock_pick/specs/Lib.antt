pub mod Weights
pub mod Way
pub mod Reached
pub mod NoCycles
pub use Rattle.model_data.specs.Cycle
pub use Rattle.model_data.specs.PaddedLists
pub use Rattle.model_data.specs.Table
