-- What the code of the rounded quotient computes, on plain values. Proved.
pub mod Halves
