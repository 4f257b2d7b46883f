pub mod Reads
pub mod Writes
pub mod Steps
pub mod Session
pub mod Lawful
