pub mod HalfFormat
pub mod LaidLaws
