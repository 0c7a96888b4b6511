mod EndLaws
mod FitLaws
mod JudgedLaws
mod RowLaws
mod SpeakLaws
pub mod MapLaws
pub mod NodeLaws
pub mod HoldLaws
