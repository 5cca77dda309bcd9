pub mod Ends
pub mod Bits
pub mod Storms
pub mod Rule
pub mod Standing
pub mod CacheRuns
pub mod CachePlayed
pub mod Blind
