pub mod Log
pub mod Replay
pub mod Keeping
pub mod Crash
pub mod May
pub mod Kind
