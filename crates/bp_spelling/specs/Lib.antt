pub mod Hashes
pub mod Names
pub mod Places
pub mod Tables
pub mod Gathered
