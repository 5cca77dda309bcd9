pub mod Commands
pub mod Texts
pub mod Lines
pub mod Sayings
pub mod Export
