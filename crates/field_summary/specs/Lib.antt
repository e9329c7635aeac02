-- What the code of the summary computes, tied to document 01's definitions. Proved.
pub mod Ends
