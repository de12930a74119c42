-- The hull's sides as a list that names each station's next one, and the chains that they are found by.
pub mod Outline
