-- AnswerLaws: which answer is given. LevelLaws: what passes 5. WrittenLaws: a block's text by its parts. RoomLaws: how long a text can be.
-- RangedLaws: what is written is read back. Vectors: document 01's example and other blocks, by computation.
pub mod AnswerLaws
pub mod LevelLaws
pub mod WrittenLaws
pub mod RoomLaws
pub mod RangedLaws
pub mod Vectors
