pub mod Wanted
pub mod Generator
pub mod Storm
pub mod Cache
