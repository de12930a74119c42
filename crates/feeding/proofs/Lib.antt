-- Tags and their marks; what a step of the reader comes to.
pub mod TagLaws
pub mod MarkLaws
pub mod ReaderLaws
