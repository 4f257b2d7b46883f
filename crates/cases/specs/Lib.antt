pub mod Parts
pub mod Cases
pub mod Changes
pub mod Refusals
