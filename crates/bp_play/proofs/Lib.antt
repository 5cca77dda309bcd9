pub mod TurnLaws
pub mod SumLaws
