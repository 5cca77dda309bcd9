pub mod Room
pub mod Taking
pub mod Gathering
