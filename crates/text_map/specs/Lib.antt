pub mod Map
pub mod Reading
