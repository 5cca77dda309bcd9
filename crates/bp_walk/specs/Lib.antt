pub mod Taken
pub mod Pointed
pub mod Walk
