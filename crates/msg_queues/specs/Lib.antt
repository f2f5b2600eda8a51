pub mod FreeMessages
pub mod KeptMessages
pub mod RefusedInput
pub mod Places
pub mod Index
pub use Rattle.model_messages.specs.ConversationInput
pub use Rattle.model_messages.specs.Queue
pub use Rattle.model_messages.specs.Room
