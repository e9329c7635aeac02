-- How a row of the refusal table is tested, in code's words, and what a search answers. Proved.
pub mod Found
pub mod Tested
