pub mod Turns
pub mod Summaries
pub mod Counting
pub mod Paths
pub mod Turning
pub mod Playing
