-- The text of the served ground: its heading, and the block of a level; which answer the writer gives.
pub mod Report
pub mod Writer
