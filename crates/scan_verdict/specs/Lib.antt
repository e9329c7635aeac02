-- The numbers of the verdicts. Proved.
pub mod Numbers
