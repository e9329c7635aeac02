-- What the code of the cut computes, tied to document 01's definitions. Proved.
pub mod Kept
pub mod Part
