-- AnswerLaws: what holds of whatever an answer gives.
pub mod AnswerLaws
