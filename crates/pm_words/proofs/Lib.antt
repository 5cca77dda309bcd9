pub mod Bytes
pub mod Digits
pub mod LowBytes
pub mod ByteLaws
pub mod ShiftLaws
pub mod OverlayLaws
