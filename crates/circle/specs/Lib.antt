-- The circle through three places.
pub mod Circle
