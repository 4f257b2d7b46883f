pub mod PartLaws
pub mod RefusalLaws
pub mod ReadLaws
pub mod CaseLaws
