pub mod Tuning
