pub mod KindLaws
pub mod LineLaws
pub mod Laws
pub mod Examples
