pub mod Pulled
