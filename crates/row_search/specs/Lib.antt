pub mod Walk
pub mod Arguments
pub mod AskedArguments
pub use Rattle.model_data.specs.GetCalls
pub use Rattle.model_data.specs.Path
pub use Rattle.model_data.specs.Rows
pub use Rattle.model_data.specs.Search
