pub mod CalendarLaws
pub mod DifferenceLaws
pub mod FindingLaws
pub mod MarginLaws
pub mod OrderLaws
pub mod TimeLaws
