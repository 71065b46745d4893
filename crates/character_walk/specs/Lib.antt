pub mod Touching
pub mod Walking
