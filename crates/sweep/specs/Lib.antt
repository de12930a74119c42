pub mod Members
pub mod Sweep
pub mod Page
pub mod Rising
pub mod Boundary
pub mod Hull
pub mod Cover
