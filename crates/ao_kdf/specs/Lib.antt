pub mod Cache
pub mod Hashers
pub mod Hasher
pub mod Block
pub mod Cipher
pub mod Chain
pub mod Subkeys
pub mod CmacHasher
