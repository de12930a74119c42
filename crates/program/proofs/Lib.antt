-- LevelLaws: how many lines and vertices a level has, and what stands at the front of a list. ThreeLaws: no line of a level is too short,
-- and no spot too far. DoneLaws: what is written fits the room. ReadLaws, AcceptedLaws: what a text that is read, and one that is
-- accepted, says. OpeningLaws: the opening of contour text among those of either text. ReadyLaws: what opening leaves is ready for every block. RefusedLaws: which refusals can come. ChainLaws: texts of
-- a heading and then levels. ContourLaws: the contour text is right, and read back. ProgramLaws: the pieces are the whole. Vectors: known texts.
pub mod LevelLaws
pub mod ThreeLaws
pub mod DoneLaws
pub mod ReadLaws
pub mod AcceptedLaws
pub mod OpeningLaws
pub mod ReadyLaws
pub mod RefusedLaws
pub mod ChainLaws
pub mod ContourLaws
pub mod ProgramLaws
pub mod Vectors
