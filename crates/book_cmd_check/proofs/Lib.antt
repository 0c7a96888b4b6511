pub mod ConnectionLaws
pub mod HandshakeLaws
