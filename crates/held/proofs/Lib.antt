-- HeldLaws: what the rooms hold.
pub mod HeldLaws
