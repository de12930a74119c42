-- StepLaws: a step and a line over half-sides are those of the triangle list. LoopLaws, PassLaws: two passes over a row of sides in order give
-- the lines of the page. RowLaws: the half-sides in order are such a row. LinkLaws: so passes over half-sides give the lines.
pub mod StepLaws
pub mod LoopLaws
pub mod PassLaws
pub mod RowLaws
pub mod WrittenLaws
pub mod LinkLaws
-- RoomLaws: marks in a room. HeldLaws: what a room tells that holds records. SameLaws: THE LINES over records (`lines_same`, `vertices_same`).
pub mod RoomLaws
pub mod HeldLaws
pub mod SameLaws
-- What the code does, step by step: WrittenLaws, TracingLaws, CodeLaws, WalkLaws (one line), StartLaws, ScanLaws (one pass), TraceLaws (both).
pub mod TracingLaws
pub mod CodeLaws
pub mod WalkLaws
pub mod StartLaws
pub mod ScanLaws
pub mod TraceLaws
