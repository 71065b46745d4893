pub mod Map
pub mod Box
