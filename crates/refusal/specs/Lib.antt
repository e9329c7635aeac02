-- What a refusal says and how it settles a call, and a call whose lengths are right. Proved.
pub mod Row
pub mod Lengths
