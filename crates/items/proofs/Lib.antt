pub mod TextLaws
pub mod FormLaws
pub mod SetLaws
pub mod EndLaws
pub mod DigitLaws
pub mod NumberLaws
