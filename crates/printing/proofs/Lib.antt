-- RowLaws: rows of bytes, put turn by turn.
pub mod RowLaws
