-- What the slices hold before the first scan, and of each later state. Proved.
pub mod Reached
pub mod Start
