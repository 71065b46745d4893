pub mod Trial
pub mod Calls
pub mod Laws
pub mod Worked
pub mod Limits
pub mod Answers
pub mod Numbers
