-- What the window's part of an analysis is, and windows one after the other, tied to the definitions. Proved.
pub mod Query
pub mod Turn
