pub mod Cases
pub mod KindLaws
pub mod Splits
pub mod ItemLaws
pub mod LineLaws
pub mod TheLanguage
