-- What reading a header and a record does to a buffer (own).
use Rattle.std.specs.Prelude.{◌≡◌, ℕ, ◌+◌, ◌<◌, ◌≤◌, List, [], ◌++◌, length, take, drop, Option, None, Ok, Err}
use Rattle.std.specs.List.{All}
use Rattle.ao_base.specs.Buffered.{Buffered}
use Rattle.ao_base.specs.Outside.{Side, Gave, Rose, IsAtEnd, told}
use Rattle.book_pcap.specs.declared.pcap_head.ByteOrder.{ByteOrder}
use Rattle.book_pcap.specs.declared.pcap_head.Head.{Head}
use Rattle.book_base.specs.Fronts.{Faulted, Leads}
use Rattle.book_pcap.specs.Packets.{RecordFault, Broken, record_at}
use Rattle.pcap_file.specs.declared.records.Opened.{Opened}
use Rattle.pcap_file.specs.declared.records.Opened.TheVariants as opening
use Rattle.pcap_file.specs.declared.records.Found.{Found}
use Rattle.pcap_file.specs.declared.records.Found.TheVariants as found
use Rattle.book_base.specs.Hexadecimal.{IsByte}
use Rattle.pcap_file.specs.Reads.{opened_from, header_length}

-- what reading the header gives, by what was kept and given
abbrev pub IsOpened : Option Head → List ℕ → Buffered → Side → Side → Opened → Type 0
IsOpened had text now source_before source_now (opening.Head head) =
    ((left : List ℕ) → opened_from had (text ++ left) ≡ Ok (head, now.kept ++ left)) × (now.kept ≡ drop (header_length had) text) × (header_length had ≤ length text)
IsOpened had text now source_before source_now (opening.Bad fault) =
    (had ≡ None) × (opened_from had (text ++ told source_now.bytes) ≡ Err fault) × (now.kept ≡ text) × (length now.kept ≤ now.size) × (opened_from had text ≡ Err fault)
IsOpened had text now source_before source_now opening.Fault = Rose source_before source_now × (had ≡ None) × (now.kept ≡ text) × (length now.kept ≤ now.size)

-- reading the header
pub record Opens (had : Option Head) (before now : Buffered) (source_before source_now : Side) (given : List ℕ) (result : Opened) : Type 0 where
  pub gave : Gave given source_before source_now
  pub bytes : All IsByte given
  pub size : now.size ≡ before.size
  pub is : IsOpened had (before.kept ++ given) now source_before source_now result

-- what reading a record gives, by what is kept
abbrev pub IsFound : ByteOrder → List ℕ → Side → Side → Found → Type 0
IsFound order kept source_before source_now (found.Whole seconds len) =
    (record_at order (kept ++ told source_now.bytes) ≡ Leads (record { seconds = seconds; bytes = take len (drop 16 kept) }) (drop (16 + len) kept ++ told source_now.bytes)) × (16 + len ≤ length kept)
IsFound order kept source_before source_now found.Done = (kept ≡ []) × IsAtEnd source_now
IsFound order kept source_before source_now found.Broken = (record_at order (kept ++ told source_now.bytes) ≡ Faulted Broken) × (record_at order kept ≡ Faulted Broken)
IsFound order kept source_before source_now found.Fault = Rose source_before source_now

-- reading a record
pub record Finds (order : ByteOrder) (before now : Buffered) (source_before source_now : Side) (given : List ℕ) (result : Found) : Type 0 where
  pub gave : Gave given source_before source_now
  pub bytes : All IsByte given
  pub kept : now.kept ≡ before.kept ++ given
  pub size : now.size ≡ before.size
  pub fits : length now.kept ≤ now.size
  pub is : IsFound order now.kept source_before source_now result
