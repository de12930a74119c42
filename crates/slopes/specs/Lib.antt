-- The slopes job: the five slopes, and what the job leaves.
pub mod Slopes
pub mod Job
