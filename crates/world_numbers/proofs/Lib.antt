pub mod Rows
pub mod RowsIn
pub mod Seats
pub mod Encoded
pub mod Parts
pub mod Any
pub mod Written
