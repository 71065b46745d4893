pub mod Written
pub mod Turns
pub mod Steps
pub mod Answers
