-- What the programs write for a survey's text, in one piece and piece by piece; what opening a text leaves for its blocks.
pub mod Program
pub mod Opened
