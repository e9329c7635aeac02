pub mod Words
pub mod Capped
pub mod Ranges
