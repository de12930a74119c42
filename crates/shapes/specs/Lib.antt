-- A line read byte by byte, its bytes, and the values it may have.
pub mod Line
pub mod Bytes
pub mod Ranges
