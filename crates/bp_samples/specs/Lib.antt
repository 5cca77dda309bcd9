pub mod Laid
pub mod Cores
