-- A call that passed the rows of lengths and is loaded: what is left of it, settled, settles the call. Proved.
pub mod Settled
