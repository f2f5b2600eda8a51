pub mod RunningScript
pub mod TextRuns
pub use Rattle.model_system.specs.Arithmetic
pub use Rattle.model_system.specs.Programs
pub use Rattle.model_system.specs.Script
pub use Rattle.model_system.specs.Texts
pub use Rattle.tm_types.specs.Segment
