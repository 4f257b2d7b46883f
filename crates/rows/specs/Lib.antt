pub mod Places
pub mod Rows
pub mod Table
pub mod Lookups
pub mod KeyPlaces
pub mod Lawful
pub mod Lines
