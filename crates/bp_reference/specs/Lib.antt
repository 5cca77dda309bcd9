pub mod Trees
pub mod ByTree
pub mod TreeLaws
pub mod State
