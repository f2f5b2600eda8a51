pub mod PrintedText
pub use Rattle.model_machine.specs.LastingSteps
pub use Rattle.model_session.specs.QuietTurns
pub use Rattle.model_session.specs.Text
