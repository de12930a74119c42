pub mod Lowest
pub mod Table
pub mod Sort
pub mod Rows
