-- What the rooms are filled from.
pub mod Fill
