pub mod LineBytes
pub mod HearLaws
pub mod CallLaws
pub mod AnswerLaws
pub mod AnswerBack
pub mod Laws
pub mod Examples
