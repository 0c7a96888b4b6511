pub mod Given
pub mod Said
pub mod WordLaws
