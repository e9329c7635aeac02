-- Laws of ℤ, and of fractions of ℕ, that the kit lacks, each stated once. Nothing here must be believed: all is proved.
pub mod Parts
pub mod Sizes
pub mod Ring
pub mod Order
pub mod Words
pub mod Fractions
