-- Half-sides, the mesh as records, records as numbers in a room, and what a room holds while they are built.
pub mod Half
pub mod Records
pub mod Room
pub mod Chains
