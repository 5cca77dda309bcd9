pub mod CompleteLaws
pub mod CopyLaws
pub mod CrashLaws
pub mod SaveLaws
