-- The points of the cuts of a screen. Proved.
pub mod Cuts
