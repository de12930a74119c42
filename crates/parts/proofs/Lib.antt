pub mod Doors
pub mod SideDoors
