-- The pieces of a batch in an image.
pub mod Pieces
