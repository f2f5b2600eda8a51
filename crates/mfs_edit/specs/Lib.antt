pub mod Indexes
pub mod InputAnswers
pub mod Texts
pub mod Pieces
pub use Rattle.model_system.specs.FormatRule
pub use Rattle.model_system.specs.ScreenInput
pub use Rattle.model_system.specs.ScreenPage
