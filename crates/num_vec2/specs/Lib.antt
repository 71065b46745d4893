pub mod Vec2
