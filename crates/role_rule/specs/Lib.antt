pub mod Roles
pub mod Requests
