-- What the code of a station computes, on plain values. Proved.
pub mod Judge
