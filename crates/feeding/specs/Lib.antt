-- The marks of tags; what a reader means.
pub mod Marks
pub mod Reader
