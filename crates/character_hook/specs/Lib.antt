pub mod Hook
pub mod Hooking
pub mod Dragging
pub mod Flying
