mod Blocks
mod LentValues
mod EntryLaws
mod WordLaws
mod RunLaws
mod PieceLaws
mod LogLaws
mod UnwoundLaws
mod KindLaws
mod RowLaws
mod RegionLaws
mod EpochLaws
mod PlaceLaws
pub mod SpelledLaws
