-- What a survey is, which one is refused and why, what room a job needs, and the ranks of its stations.
pub mod Limits
pub mod Rooms
pub mod Refusals
pub mod Answer
pub mod Answers
pub mod Survey
pub mod Checks
pub mod Fit
pub mod Rank
