-- What the code of the scans computes, tied to the definitions. Proved.
pub mod Scanned
pub mod Ready
pub mod Run
