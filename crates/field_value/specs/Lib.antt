-- What the code of the interpolation computes, on plain values. Proved.
pub mod Axis
pub mod Corners
