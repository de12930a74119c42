-- Stations among the numbers of a list. What is accepted is defined in `woven`.
pub mod Named
