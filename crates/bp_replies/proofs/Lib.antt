pub mod PassingLaws
pub mod Pieces
