-- What the program does at a terminal.
pub mod Typing
pub mod Asking
