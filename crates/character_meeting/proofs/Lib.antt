pub mod FarPush
