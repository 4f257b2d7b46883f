pub mod Digits
pub mod Lines
pub mod Writes
pub mod Run
pub mod Lawful
