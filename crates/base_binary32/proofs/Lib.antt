pub mod Nans
pub mod Patterns
pub mod Grid
pub mod Sign
