-- KnownLists: a list worked out. ListedLaws: the list stands in order, has the same triangles, and by keys is the sorted list. KeyLaws: keys
-- in a slice, filled in and written out.
pub mod KnownLists
pub mod ListedLaws
pub mod KeyLaws
