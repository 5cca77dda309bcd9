-- What sources, sinks and files do.
pub mod Views
pub mod Causes
pub mod Streams
pub mod Files
pub mod Plans
pub mod Memory
