-- What the blocks of a pcapng file say (draft-ietf-opsawg-pcapng).
use Rattle.std.specs.Prelude.{ℕ, zero, suc, ◌+◌, ◌-◌, ◌*◌, ◌/◌, ◌^◌, ◌==◌, ◌&&◌, nat_lt, min, List}
use Rattle.std.specs.Prelude.{take, drop, length, slice_index, Option, Some, None, Result, Ok, Err}
use Rattle.std.specs.Prelude.{if◌then◌else◌}
use Rattle.book_pcap.specs.declared.pcap_head.ByteOrder.{ByteOrder}
use Rattle.book_pcap.specs.declared.pcap_head.ByteOrder.TheVariants.{Big, Little}
use Rattle.book_pcap.specs.Packets.{two_at, four_at}
use Rattle.book_captures.specs.declared.block_parts.BodyFault.{BodyFault}
use Rattle.book_captures.specs.declared.block_parts.BodyFault.TheVariants as fault
use Rattle.book_captures.specs.declared.block_parts.TimeResolution.{TimeResolution}
use Rattle.book_captures.specs.declared.block_parts.TimeResolution.TheVariants.{Decimal, Binary}
use Rattle.book_captures.specs.declared.block_parts.TimeOffset.{TimeOffset}
use Rattle.book_captures.specs.declared.block_parts.TimeOffset.TheVariants.{Later, Earlier}
use Rattle.book_captures.specs.declared.block_parts.Interface.{Interface}

-- the resolution of times that a byte tells (pcapng, section 4.2, if_tsresol)
abbrev pub resolution_of : ℕ → TimeResolution
resolution_of n = if nat_lt n 128 then Decimal n else Binary (n - 128)

-- the length of an option's value with its padding (pcapng, section 3.5)
abbrev pub padded_length : ℕ → ℕ
padded_length n = (n + 3) / 4 * 4

-- the value of the first option of this code and length among at most so many options, in front of
-- the end, of code 0 (pcapng, section 3.5)
unfoldable pub option_in : ℕ → ByteOrder → (code size : ℕ) → List ℕ → Option (List ℕ)
option_in zero order code size options = None
option_in (suc k) order code size options = if nat_lt (length options) (4 + size) then None
    else if two_at order options 0 == 0 then None
    else if (two_at order options 0 == code) && (two_at order options 2 == size)
    then Some (take size (drop 4 options))
    else option_in k order code size (drop (4 + padded_length (two_at order options 2)) options)

-- the resolution that the value of if_tsresol tells; millionths of a second where there is none
-- (pcapng, section 4.2)
abbrev pub resolution_told : Option (List ℕ) → TimeResolution
resolution_told None = Decimal 6
resolution_told (Some value) = resolution_of (slice_index value 0)

-- the number of eight bytes at the front (own)
abbrev pub eight_at : ByteOrder → List ℕ → ℕ
eight_at Big b = four_at Big b 0 * 0x100000000 + four_at Big b 4
eight_at Little b = four_at Little b 0 + four_at Little b 4 * 0x100000000

-- a number of 64 bits that may be negative, in two's complement (own)
abbrev pub offset_of : ℕ → TimeOffset
offset_of n = if nat_lt n 0x8000000000000000 then Later n else Earlier (0x10000000000000000 - n)

-- the offset of times that the value of if_tsoffset tells; none where there is no such option
-- (pcapng, section 4.2)
abbrev pub offset_by : ByteOrder → Option (List ℕ) → TimeOffset
offset_by order None = Later 0
offset_by order (Some value) = offset_of (eight_at order value)

-- what the body of a block of type 1 says of an interface (pcapng, section 4.2)
unfoldable pub interface_in : ByteOrder → List ℕ → Result Interface BodyFault
interface_in order body = if nat_lt (length body) 8 then Err fault.Short else Ok (record {
  link = two_at order body 0;
  snapshot = four_at order body 4;
  resolution = resolution_told (option_in (length body) order 9 1 (drop 8 body));
  offset = offset_by order (option_in (length body) order 14 8 (drop 8 body));
})

-- how many units of time a second has (own)
abbrev pub units : TimeResolution → ℕ
units (Decimal n) = 10 ^ n
units (Binary n) = 2 ^ n

-- a time in nanoseconds, moved by an offset in seconds; one before 1970 is 1970, and one that 64
-- bits don't hold is the last that they do (own)
abbrev pub moved_time : TimeOffset → ℕ → ℕ
moved_time (Later seconds) time = min (time + seconds * 1000000000) 0xffffffffffffffff
moved_time (Earlier seconds) time = min (time - seconds * 1000000000) 0xffffffffffffffff

-- so many units of time in nanoseconds; a time that 64 bits don't hold is the last that they do
-- (own)
abbrev pub stamp_time : TimeResolution → TimeOffset → ℕ → ℕ
stamp_time resolution offset count = moved_time offset (count * 1000000000 / units resolution)

-- a packet as a block keeps it: the number of its interface in the section, its time in units, how
-- many bytes it had, and those that the snapshot left (pcapng, section 4.3)
pub record Stamped : Type 0 where
  pub interface : ℕ
  pub count : ℕ
  pub original : ℕ
  pub bytes : List ℕ

-- the packet in the body of a block, of the interface of this number: two halves of its time, kept
-- length and original length, of four bytes each, and the kept bytes (pcapng, section 4.3)
abbrev pub stamped_in : ByteOrder → ℕ → List ℕ → Result Stamped BodyFault
stamped_in order interface body = if nat_lt (length body) 20 then Err fault.Short
    else if nat_lt (length body) (20 + four_at order body 12) then Err fault.Short
    else Ok (record {
      interface = interface;
      count = four_at order body 4 * 0x100000000 + four_at order body 8;
      original = four_at order body 16;
      bytes = take (four_at order body 12) (drop 20 body);
    })

-- the packet of an enhanced block, of type 6: its interface has four bytes (pcapng, section 4.3)
unfoldable pub enhanced_in : ByteOrder → List ℕ → Result Stamped BodyFault
enhanced_in order body = stamped_in order (four_at order body 0) body

-- the packet of an old block, of type 2: its interface has two bytes, and two say how many packets
-- were lost (pcapng, appendix A)
unfoldable pub old_in : ByteOrder → List ℕ → Result Stamped BodyFault
old_in order body = stamped_in order (two_at order body 0) body

-- how many bytes a simple block keeps of a packet that had so many; a snapshot of 0 has no limit
-- (pcapng, section 4.4)
abbrev pub simple_length : (snapshot original : ℕ) → ℕ
simple_length snapshot original = if snapshot == 0 then original else min original snapshot

-- a packet with no time: how many bytes it had, and those that the snapshot left (pcapng, section
-- 4.4)
pub record Unstamped : Type 0 where
  pub original : ℕ
  pub bytes : List ℕ

-- the packet of a simple block, of type 3: it is of the section's first interface, with this
-- snapshot (pcapng, section 4.4)
unfoldable pub simple_in : ByteOrder → ℕ → List ℕ → Result Unstamped BodyFault
simple_in order snapshot body = if nat_lt (length body) 4 then Err fault.Short
    else if nat_lt (length body) (4 + simple_length snapshot (four_at order body 0))
    then Err fault.Short
    else Ok (record {
      original = four_at order body 0;
      bytes = take (simple_length snapshot (four_at order body 0)) (drop 4 body);
    })
