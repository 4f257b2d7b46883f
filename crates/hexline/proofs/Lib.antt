pub mod Cond
pub mod DigitLaws
pub mod RunLaws
pub mod LineLaws
pub mod ByteLaws
pub mod LayLaws
pub mod Laws
pub mod Examples
