pub mod Aside
pub mod First
