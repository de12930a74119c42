-- The lines job.
pub mod Job
