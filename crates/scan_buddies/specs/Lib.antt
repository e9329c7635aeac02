-- What the code of the buddy check computes, on plain lists and numbers. Proved.
pub mod Aside
pub mod Voices
pub mod Cells
pub mod Nine
pub mod Walks
pub mod Asked
