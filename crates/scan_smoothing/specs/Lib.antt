-- What the code of smoothing computes, on a stored field. Proved.
pub mod Pattern
pub mod Sixteenth
pub mod Pass
