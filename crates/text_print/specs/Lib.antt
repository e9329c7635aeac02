pub mod Written
pub mod Puts
pub mod Rows
pub mod Signs
