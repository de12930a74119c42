pub mod Side
pub mod Crossed
pub mod Walk
pub mod Lines
pub mod Mesh
pub mod Rule
pub mod Promise
