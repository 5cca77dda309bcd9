pub mod Step
pub mod SuperEvents
pub mod FileCall
pub mod Called
pub mod Behaviour
pub mod ByWords
pub mod WordLaws
