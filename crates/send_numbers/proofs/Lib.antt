pub mod Rows
pub mod CopiesBack
pub mod ScreensBack
pub mod PassedBack
pub mod Readings
