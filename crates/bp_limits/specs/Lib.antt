pub mod CallLimits
pub mod Limits
pub mod Numbers
