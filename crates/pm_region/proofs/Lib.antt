pub mod MemoryLaws
pub mod SafeLaws
pub mod MayLaws
pub mod PutBack
pub mod RunLaws
pub mod WithinLaws
pub mod EpochLaws
pub mod KindLaws
