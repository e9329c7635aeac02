-- Lists as loops make them: by a function of the index, summed, searched, filtered, part by part. Nothing here must be believed but the short
-- definitions tab, total, up_to, first, first_in, keep and each, which the scheme cites, and rank, which demand 3 is stated by.
pub mod Tests
pub mod Tab
pub mod Filled
pub mod Sums
pub mod First
pub mod Members
pub mod Keep
pub mod Parted
pub mod Each
pub mod Turns
pub mod Chains
