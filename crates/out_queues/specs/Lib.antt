pub mod KeptReplies
pub mod Acknowledgement
pub use Rattle.model_messages.specs.Outputs
pub use Rattle.model_messages.specs.Room
pub use Rattle.tm_types.specs.Segment
