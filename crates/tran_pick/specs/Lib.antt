pub mod RegionPick
pub use Rattle.model_machine.specs.Pick
pub use Rattle.model_messages.specs.Queue
pub use Rattle.model_system.specs.Codes
