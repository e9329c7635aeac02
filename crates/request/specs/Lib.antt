-- The request that terms, first guess and stations hold, what a call is lent, and that loading makes of it what it asks. Proved.
pub mod Tables
pub mod Lent
pub mod Loaded
