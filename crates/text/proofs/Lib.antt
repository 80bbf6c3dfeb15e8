pub mod DecimalDigits
pub mod DecimalLaws
pub mod Digits
pub mod FieldLaws
mod FieldsShown
pub mod HexLaws
mod NumbersShown
pub mod SignedLaws
pub mod Sole
pub mod WordLaws
pub mod WritingLaws
