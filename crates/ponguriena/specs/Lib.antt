pub mod ByRole
pub mod Layout
pub mod Standing
