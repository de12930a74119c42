-- The three kinds of height at a place, which heights are numbers, and the job.
pub mod Height
pub mod Kinds
pub mod Job
pub mod Finite
