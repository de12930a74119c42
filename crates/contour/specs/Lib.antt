-- The contour text: its heading, the block of a level, a refusal; which answer the writer gives, and what its room holds.
pub mod Contour
pub mod Writer
