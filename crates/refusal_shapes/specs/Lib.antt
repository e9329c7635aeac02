-- Row 2 of a screen, and rows 4 and 5, of the refusal table, on lengths and counts alone.
pub mod Tested
