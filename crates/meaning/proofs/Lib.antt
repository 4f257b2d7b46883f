pub mod Laid
pub mod KeyedLaws
pub mod KeptKinds
pub mod Spoken
pub mod Whole
pub mod FrameLaws
pub mod Laws
pub mod Examples
