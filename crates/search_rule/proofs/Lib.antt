pub mod Choices
pub mod Tried
pub mod Found
pub mod Along
pub mod Order
pub mod Laws
pub mod Worked
