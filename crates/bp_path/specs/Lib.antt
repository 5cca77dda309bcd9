pub mod Names
pub mod FoundEntries
pub mod Walk
