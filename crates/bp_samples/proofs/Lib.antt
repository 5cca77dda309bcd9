pub mod LaidLaws
pub mod EmptyImage
pub mod TwoLeaves
pub mod CoresLaws
