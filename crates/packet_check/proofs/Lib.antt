pub mod ContentLaws
pub mod EndLaws
pub mod PacketLaws
pub mod PacketWalk
pub mod SayingLaws
pub mod TallyLaws
