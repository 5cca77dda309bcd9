pub mod CanRename
pub mod RenamesEntry
pub mod TouchesTwo
pub mod Respelled
pub mod MovesPath
pub mod Planned
