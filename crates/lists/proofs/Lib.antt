-- TestLaws: a claim by a test, and tests joined by `&&` and `||`. LowestLaws: what a search finds, and the steps of its loop. SearchLaws:
-- the same, of a loop that has come so far. FoundLaws: the same, of the library's searches. TableLaws: the step of a loop that fills or clears a slice. RowsLaws: the same row by row. SortLaws: sorting. SortedLaws: what rises and has a list's numbers is that list sorted. ClimbLaws: sorted lists of
-- different numbers.
pub mod TestLaws
pub mod LowestLaws
pub mod SearchLaws
pub mod FoundLaws
pub mod BelowLaws
pub mod TableLaws
pub mod RowsLaws
pub mod SortLaws
pub mod SortedLaws
pub mod ClimbLaws
