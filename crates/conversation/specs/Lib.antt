pub mod Changes
pub mod Refusals
pub use Rattle.model_messages.specs.ConversationInput
pub use Rattle.model_messages.specs.Pads
pub use Rattle.model_messages.specs.Queue
pub use Rattle.model_messages.specs.Terminals
