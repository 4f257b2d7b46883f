pub mod Kinds
pub mod RecordLines
pub mod Lawful
