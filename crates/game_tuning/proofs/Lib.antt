pub mod Off
pub mod Hold
