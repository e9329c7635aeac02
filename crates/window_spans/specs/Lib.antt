-- What the code of the reach and of the spans computes, tied to document 01's definitions. Proved.
pub mod Spans
