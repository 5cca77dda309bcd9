pub mod LatestLaws
