pub mod LateNumbers
