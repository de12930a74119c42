-- The figures of a level as the code counts them, and the job.
pub mod Figures
pub mod Job
