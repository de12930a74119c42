-- FigureLaws: what opening leaves is at hand for every level's figures, and they fit the room. ReportLaws: the report is right and read back, and
-- the pieces are the whole. Vectors: known texts.
pub mod FigureLaws
pub mod ReportLaws
pub mod Vectors
