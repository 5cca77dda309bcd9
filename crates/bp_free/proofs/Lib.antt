pub mod Members
pub mod Words
pub mod Summary
pub mod Complement
pub mod Prefixes
