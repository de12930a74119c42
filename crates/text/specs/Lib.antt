-- The reader of survey text.
pub mod Reader
