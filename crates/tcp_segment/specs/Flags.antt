-- The flags of TCP, by their names.
use Rattle.std.specs.Prelude.{ℕ}
use Rattle.book_segments.specs.Segments.{FIN, SYN, RST, PSH, ACK}
use Rattle.tcp_segment.specs.declared.flags.Flag.{Flag}
use Rattle.tcp_segment.specs.declared.flags.Flag.TheVariants.{Fin, Syn, Rst, Psh, Ack}

-- the flag in a byte of flags (RFC 9293, section 3.1)
abbrev pub bit_of_flag : Flag → ℕ
bit_of_flag Fin = FIN
bit_of_flag Syn = SYN
bit_of_flag Rst = RST
bit_of_flag Psh = PSH
bit_of_flag Ack = ACK
