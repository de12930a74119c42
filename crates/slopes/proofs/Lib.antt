-- SlopeLaws: every slope is within the cut.
-- JobLaws: what the steps leave is what the job is to leave.
-- KnownSlopes: T7, a tie, a replaced neighbour.
pub mod SlopeLaws
pub mod JobLaws
pub mod KnownSlopes
