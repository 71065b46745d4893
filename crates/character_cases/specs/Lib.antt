pub mod Holding
pub mod ProvedCases
