-- CopyLaws: triangles at the front of a room.
pub mod CopyLaws
