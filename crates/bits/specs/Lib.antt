pub mod Word
pub mod Members
pub mod Sets
pub mod Lawful
