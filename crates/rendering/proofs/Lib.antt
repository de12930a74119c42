-- FormLaws: the writer's test of the levels. ListLaws: tables and rows. TagLaws: a tag's bytes and its word. ToldLaws: heights as they
-- are told. PartLaws: which values of a text are in their ranges, by their places. ValueLaws: a survey and its values give each other.
-- LineLaws, LengthLaws: a text's lines, and how long it is. TextLaws: the theorems. Vectors: document 01's examples.
pub mod FormLaws
pub mod ListLaws
pub mod TagLaws
pub mod ToldLaws
pub mod PartLaws
pub mod ValueLaws
pub mod LineLaws
pub mod LengthLaws
pub mod TextLaws
pub mod Vectors
