pub mod Passed
pub mod Firsts
