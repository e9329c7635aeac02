-- PROVED: laws of the definitions of specs/Parted and specs/Each, apart from them.
pub mod Parted
pub mod Each
