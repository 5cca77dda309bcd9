mod Asked
mod BatchWords
mod NoBatch
pub mod DigitPairs
pub mod DigitRuns
pub mod EachByte
pub mod EncodedRuns
pub mod FirstWord
pub mod Joining
pub mod Masks
pub mod NameText
pub mod NumberWords
pub mod PlainPath
pub mod Rows
pub mod ServedLines
pub mod Splitting
pub mod TwoRuns
pub mod WrittenPieces
pub mod CallLines
pub mod WholeLines
pub mod PathWord
pub mod ExportLines
