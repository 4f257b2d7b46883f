pub mod Refusals
pub mod Said
pub mod Rules
pub mod Plan
pub mod Tables
pub mod Lawful
