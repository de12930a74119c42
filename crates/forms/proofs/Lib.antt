-- A text in pieces; the first line of a text; reading and writing undo each other; the first wrong line.
pub mod PieceLaws
pub mod CutLaws
pub mod FormLaws
pub mod WrongLaws
