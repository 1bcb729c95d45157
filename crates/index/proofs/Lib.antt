pub mod FillLaws
pub mod FileLaws
