pub mod Slowed
