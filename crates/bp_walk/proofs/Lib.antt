pub mod LiveSlots
pub mod Places
pub mod TakenLaws
pub mod Below
pub mod NextSlot
pub mod Pointers
pub mod WholeTree
pub mod Spans
