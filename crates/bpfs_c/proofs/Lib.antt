pub mod Handles
mod Keeping
mod Report
mod PatchLaws
mod UpgradeLaws
mod WordLaws
pub mod LooseValues
