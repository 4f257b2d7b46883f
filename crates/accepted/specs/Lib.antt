pub mod Facts
pub mod Lawful
