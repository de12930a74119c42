-- The whole-number rules of documents 01 and 02 that several jobs share.
pub mod Range
pub mod Rounding
pub mod Cut
pub mod Place
pub mod Turn
