-- CountLaws: how many vertices the first lines have. LengthLaws: how long a block's parts can be. PartLaws: a line by its part of the lists.
pub mod CountLaws
pub mod LengthLaws
pub mod PartLaws
