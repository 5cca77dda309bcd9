pub mod Calls
pub mod Crash
pub mod Disk
pub mod Held
pub mod Saves
pub mod Second
