-- What the code of the weights computes, tied to the definitions of documents 01 and 02. Proved.
pub mod Product
pub mod Along
