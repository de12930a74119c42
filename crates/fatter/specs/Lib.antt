-- Swaps of shared sides, and the mesh that they lead to.
pub mod Swap
pub mod Fatter
