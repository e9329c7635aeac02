-- The cut as a request of its own, tied to document 01's definitions. Proved.
pub mod Cut
