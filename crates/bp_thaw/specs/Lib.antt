pub mod Linked
pub mod Copies
pub mod Prefixes
pub mod Steps
pub mod Thaws
