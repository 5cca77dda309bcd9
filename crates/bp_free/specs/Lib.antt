pub mod Looks
pub mod Padded
pub mod Set
pub mod Words
pub mod Parts
