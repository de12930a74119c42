-- TopLaws: the lowest of a block after a store, and the lowest of all.
pub mod TopLaws
