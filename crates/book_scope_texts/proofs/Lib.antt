pub mod AddressLaws
pub mod InstantLaws
pub mod PlaceLaws
pub mod SecretLaws
pub mod WalkLaws
