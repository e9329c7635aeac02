-- Where a search that found something ended.
pub mod Places
