-- The height job over a mesh that is handed in.
pub mod Job
