pub mod Cuts
pub mod CrashLaws
pub mod KeptCalls
pub mod KeptIndices
pub mod WordLaws
pub mod Deciding
pub mod MayLaws
pub mod PieceLaws
