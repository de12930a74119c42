-- The two kinds of mesh, and the job.
pub mod Kinds
pub mod Job
