pub mod PacketFiles
pub mod Packets
