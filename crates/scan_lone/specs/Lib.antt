-- A station near a grid row, and what the code of rule 2 computes of those near it. Proved.
pub mod Inside
pub mod Divides
