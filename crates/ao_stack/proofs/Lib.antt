mod ActLaws
mod ArriveLaws
mod BeginLaws
mod CallLaws
mod CostLaws
mod HandLaws
pub mod LastLaws
pub mod RowLaws
mod SendLaws
pub mod StandLaws
mod TellLaws
mod TurnLaws
mod CountersCallLaws
mod HeldLaws
mod MapLaws
mod PassedLaws
mod CountersStandLaws
mod CountersTurnLaws
