pub mod EightLaws
pub mod RunLaws
