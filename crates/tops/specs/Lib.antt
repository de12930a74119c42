-- The lowest of many numbers, by blocks.
pub mod Tops
