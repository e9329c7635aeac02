-- What the code of a reading computes, on plain values. Proved.
pub mod Backing
pub mod Point
