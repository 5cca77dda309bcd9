mod CopyLaws
pub mod PieceLaws
mod RedoLaws
