pub mod OpeningLaws
pub mod FormattingLaws
mod SeeingLaws
mod PrefixLaws
pub mod RunningLaws
mod FilesLaws
mod EndingLaws
mod ExportingLaws
mod ProgramLaws
mod PlayingLaws
mod GuaranteeLaws
