pub mod Left
pub mod Head
