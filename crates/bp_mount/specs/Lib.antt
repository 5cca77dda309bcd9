pub mod Laid
pub mod Faults
