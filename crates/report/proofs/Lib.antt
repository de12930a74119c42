-- WrittenLaws: the heading and a block by their lines. LevelLaws: what passes 5. RoomLaws: how long a text can be, and that it is done. RangedLaws: what is
-- written is read back. Vectors: a heading and blocks, by computation.
pub mod WrittenLaws
pub mod LevelLaws
pub mod RoomLaws
pub mod RangedLaws
pub mod Vectors
