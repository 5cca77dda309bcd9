pub mod BelowLaws
pub mod BesideLaws
pub mod PartsLaws
pub mod PlainBytes
pub mod WalkLaws
pub mod Walking
