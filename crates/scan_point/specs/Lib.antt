-- What the code of a correction computes, on plain lists and stored grids. Proved.
pub mod Near
pub mod Entries
pub mod Pass
