pub mod LineFacts
pub mod TurnLaws
pub mod OpenLaws
pub mod CheckLaws
