pub mod Whole
pub mod Parts
pub mod Apart
pub mod Every
pub mod Rules
