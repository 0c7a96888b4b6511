pub mod Signed
pub mod Loops
pub mod Judgements
pub mod RowTexts
pub mod CarriesThrough
pub mod Unmet
