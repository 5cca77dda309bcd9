pub mod Log
pub mod Caches
pub mod Inside
pub mod Order
pub mod Choice
pub mod Played
pub mod MemoryLaws
