-- The packets of a classic file of bytes are as files have them.
use Rattle.std.proofs.Common.{◌≡◌, ℕ, ◌+◌, ◌*◌, ◌<◌, List, [], ◌∷◌, ◌++◌, length, drop, Some, None, refl, ap, ◌∙◌, arith}
use Rattle.std.specs.List.{All}
use Rattle.std.proofs.Math.Seq.{take-append_seam}
use Rattle.std.proofs.lemmas.List.{append-nil, length-append, drop_at}
use Rattle.std.proofs.lemmas.List.Elements.{All-take, All-drop}
use Rattle.hex.specs.Hex.{IsBytes}
use Rattle.book_pcap.specs.declared.pcap_head.ByteOrder.{ByteOrder}
use Rattle.book_pcap.specs.declared.pcap_head.ByteOrder.TheVariants.{Big, Little}
use Rattle.book_pcap.specs.Packets.{four_at}
use Rattle.book_cmd_check.specs.StoredLines.{stored_input}
use Rattle.book_captures.specs.declared.pcap_head.PcapHead.{PcapHead}
use Rattle.book_captures.specs.declared.pcap_head.Resolution.{Resolution}
use Rattle.book_captures.specs.declared.pcap_head.Resolution.TheVariants.{Microseconds, Nanoseconds}
use Rattle.book_captures.specs.PcapFiles.{KeptPacket, nanoseconds, record_time, IsPcapRecord, ArePcapRecords, IsPcapFile}
use Rattle.book_captures.specs.Captures.{capture_of}
use Rattle.book_captures.specs.WholeFiles.{packets_kept}
use Rattle.book_captures.proofs.PcapCaptures.{whole_is_read}
use Rattle.book_captures.specs.PacketLines.{packet_lines}
use Rattle.book_sessions.specs.Sessions.{all_captured}
use Rattle.book_base.specs.Hexadecimal.{IsByte}
use Rattle.law_sessions.specs.SeenPackets.{IsSeen, AreSeen}
use Rattle.law_sessions.proofs.Lines.{lines_judged}
use Rattle.law_pcap.proofs.Records.{by_places}

four_low : (order : ByteOrder) (text : List ℕ) (i : ℕ) → IsBytes text → four_at order text i < 4294967296
four_low Big text i small = let a = small i in let b = small (i + 1) in let d = small (i + 2) in let e = small (i + 2 + 1) in omega arith
four_low Little text i small = let a = small i in let b = small (i + 1) in let d = small (i + 2) in let e = small (i + 2 + 1) in omega arith

time_by : (resolution : Resolution) (seconds part : ℕ) → seconds < 4294967296 → part < 4294967296 → seconds * 1000000000 + part * nanoseconds resolution < 18446744073709551616
time_by Microseconds seconds part low small = omega arith
time_by Nanoseconds seconds part low small = omega arith

time_low : (head : PcapHead) (one : List ℕ) → IsBytes one → record_time head one < 18446744073709551616
time_low head one small = time_by head.resolution (four_at head.order one 0) (four_at head.order one 4) (four_low head.order one 0 small) (four_low head.order one 4 small)

same_time : (a b limit : ℕ) → a < limit → ◌≡◌ (Some a) (Some b) → b < limit
same_time a b limit low e = let same : a ≡ b = cc in rw same at low

kept_seen : (head : PcapHead) (n : ℕ) (k : KeptPacket) (one : List ℕ) → n < 18446744073709551616 → head.link < 65536 → All IsByte one → IsPcapRecord head k one
    → IsSeen (record { number = n; frame = record { time = Some k.time; link = head.link; original = k.original; bytes = k.bytes } })
kept_seen head n k one few low all is =
    let time : k.time < 18446744073709551616 = rw is.time at (time_low head one (by_places one all)) in
    record {
      number = few;
      link = omega arith;
      time = λ t e. same_time k.time t 18446744073709551616 time e;
      bytes = rw is.kept_bytes at (All-drop IsByte 16 one all);
    }

records_seen : (kept : List KeptPacket) (head : PcapHead) (n : ℕ) (body : List ℕ) → head.link < 65536 → All IsByte body → n + length body < 18446744073709551616 → ArePcapRecords head kept body
    → AreSeen n (packets_kept head n kept)
records_seen [] head n body low all few records = tt
records_seen (k ∷ ks) head n body low all few records =
    let one = records.0 in
    let others = records.1 in
    let split = records.4 in
    let both : All IsByte (one ++ others) = rw split at all in
    let first : All IsByte one = rw (take-append_seam one others) at (All-take IsByte (length one) (one ++ others) both) in
    let rest : All IsByte others = rw (drop_at one others (length one) refl) at (All-drop IsByte (length one) (one ++ others) both) in
    let size : length body ≡ length one + length others = ap length split ∙ length-append one others in
    let whole = records.2.whole in
    (refl, kept_seen head n k one (omega arith) low first (records.2), records_seen ks head (n + 1) others low rest (omega arith) (records.3))

file_seen : (head : PcapHead) (kept : List KeptPacket) (file : List ℕ) → All IsByte file → length file < 9223372036854775808 → IsPcapFile head kept [] file → AreSeen 1 (packets_kept head 1 kept)
file_seen head kept file all few is =
    let front = is.front in
    let body = is.body in
    let behind : drop (length front) file ≡ body = ap (drop (length front)) is.parts ∙ (drop_at front (body ++ []) (length front) refl ∙ append-nil body) in
    let bytes : All IsByte body = rw behind at (All-drop IsByte (length front) file all) in
    let size : length file ≡ length front + length (body ++ []) = ap length is.parts ∙ length-append front (body ++ []) in
    let same : length (body ++ []) ≡ length body = ap length (append-nil body) in
    let link = is.header.link_type in
    records_seen kept head 1 body (omega arith) bytes (omega arith) is.records

pub files_judged : (head : PcapHead) (kept : List KeptPacket) (file : List ℕ) → All IsByte file → length file < 9223372036854775808 → IsPcapFile head kept [] file
    → stored_input (packet_lines (capture_of file).packets) ≡ record { stored = all_captured (capture_of file).packets; fault = None }
files_judged head kept file all few is =
    let read = whole_is_read head kept file all is in
    rw read (lines_judged (packets_kept head 1 kept) (file_seen head kept file all few is))
