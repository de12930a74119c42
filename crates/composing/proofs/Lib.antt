-- LineLaws: parts of a text that are put one behind the other.
pub mod LineLaws
