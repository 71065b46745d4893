pub mod Encoding
pub mod Decoding
