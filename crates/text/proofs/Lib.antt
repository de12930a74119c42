-- What the reader answers.
pub mod ReaderLaws
