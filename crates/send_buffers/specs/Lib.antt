pub mod Sends
pub mod Screens
pub mod Following
