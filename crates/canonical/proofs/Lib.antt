pub mod ItemLaws
pub mod RunLaws
pub mod PassLaws
pub mod LineLaws
pub mod FileLaws
pub mod WholeLaws
