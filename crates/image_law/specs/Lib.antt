pub mod SoundState
pub mod StandingState
pub mod StepNeeds
pub mod Records
pub mod SegmentCounts
pub mod SentMessages
pub mod SoundMachine
