-- Every format is sound; each place follows its form; heights as they are told; every format run on examples.
pub mod FormatLaws
pub mod PlaceLaws
pub mod ToldLaws
pub mod Examples
