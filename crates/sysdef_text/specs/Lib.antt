pub mod MacroPlaces
pub mod Programs
pub mod Formats
pub mod LineSteps
pub mod Definitions
pub mod DefinitionEnd
pub use Rattle.text_rows.specs.Refusals
