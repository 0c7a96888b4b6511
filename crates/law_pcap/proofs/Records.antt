-- The lines of records have the packets' segments.
use Rattle.std.proofs.Common.{◌≡◌, ℕ, zero, suc, ◌+◌, ◌<◌, ◌≤◌, ◌==◌, if◌then◌else◌, Bool, true, false, List, [], ◌∷◌, ◌++◌, length, take, drop, map, None, Result, Ok, Err, refl, sym, ap, ◌∙◌, inl, inr, arith}
use Rattle.std.specs.List.{All}
use Rattle.std.proofs.lemmas.Bool.{cases_lt, cases_eq, lt-ltb, le-ltb, ne_eqb}
use Rattle.std.proofs.lemmas.List.{length-take, get_or_past}
use Rattle.std.proofs.lemmas.List.Elements.{All-take, All-drop, All-get_or, All-nil}
use Rattle.book_base.specs.Hexadecimal.{IsByte}
use Rattle.hex.specs.Hex.{IsBytes}
use Rattle.book_base.specs.Lines.{lines_of}
use Rattle.book_base.proofs.LineLaws.{lines_of-line}
use Rattle.book_pcap.specs.declared.pcap_head.ByteOrder.{ByteOrder}
use Rattle.book_pcap.specs.declared.pcap_head.ByteOrder.TheVariants.{Big, Little}
use Rattle.book_pcap.specs.declared.pcap_head.LinkType.{LinkType}
use Rattle.book_pcap.specs.declared.pcap_head.LinkType.TheVariants.{Ethernet, Raw}
use Rattle.book_pcap.specs.declared.pcap_head.Head.{Head}
use Rattle.book_pcap.specs.declared.pcap_head.HeadFault.{HeadFault}
use Rattle.book_base.specs.Fronts.{Front, Ends, Faulted, Leads, Fronted, fronted_by, fronted_within}
use Rattle.book_pcap.specs.Packets.{Kept, RecordFault, Broken, four_at, record_at, Packet, Packets, is_ip, datagram_of, with_packet, with_datagrams, fault_at, packets_in, packets_behind, packets_of, opened, head_of, and_rest}
use Rattle.book_pcap.proofs.Captures.{record_short, record_over, record_part, record_whole, record_none, put, none_at}
use Rattle.book_cmd_check.specs.StoredPackets.{stored_packet}
use Rattle.book_cmd_check.specs.StoredLines.{StoredInput, stored_from, stored_input}
use Rattle.law_pcap.specs.LineForms.{packet_line, record_lines, lines_behind, line_form}
use Rattle.law_pcap.proofs.Lines.{packet_line_plain, packet_line_back}

-- bytes by their places
pub by_places : (xs : List ℕ) → All IsByte xs → IsBytes xs
by_places xs all = λ i. elim (cases_lt i (length xs)) [
  | inl within ↦ All-get_or IsByte xs i 0 within all
  | inr past ↦ rw (get_or_past xs i 0 past) (omega arith)
]

-- a number of four bytes is below 2^32
four_low : (order : ByteOrder) (text : List ℕ) → IsBytes text → four_at order text 0 < 4294967296
four_low Big text small = let a = small 0 in let b = small 1 in let d = small 2 in let e = small 3 in omega arith
four_low Little text small = let a = small 0 in let b = small 1 in let d = small 2 in let e = small 3 in omega arith

-- what a whole record is made of
pub record IsWhole (kept : Kept) (behind : List ℕ) : Type 0 where
  pub low : kept.seconds < 4294967296
  pub bytes : All IsByte kept.bytes
  pub rest : All IsByte behind

whole_parts : (order : ByteOrder) (text : List ℕ) (kept : Kept) (rest : List ℕ) → All IsByte text →
    ◌≡◌ {A = Front Kept RecordFault} (Leads (record { seconds = four_at order text 0; bytes = take (four_at order text 8) (drop 16 text) }) (drop (16 + four_at order text 8) text)) (Leads kept rest) → IsWhole kept rest
whole_parts order text kept rest all same =
    let kept_is : record { seconds = four_at order text 0; bytes = take (four_at order text 8) (drop 16 text) } ≡ kept = cc in
    let rest_is : drop (16 + four_at order text 8) text ≡ rest = cc in
    record {
      low = rw (← kept_is) (four_low order text (by_places text all));
      bytes = rw (← kept_is) (All-take IsByte (four_at order text 8) (drop 16 text) (All-drop IsByte 16 text all));
      rest = rw (← rest_is) (All-drop IsByte (16 + four_at order text 8) text all);
    }

whole_is : (order : ByteOrder) (text : List ℕ) (kept : Kept) (rest : List ℕ) → All IsByte text → record_at order text ≡ Leads kept rest → IsWhole kept rest
whole_is order text kept rest all is =
    elim (cases_eq (length text) 0) [
      | inl none ↦ let no : record_at order text ≡ Ends = none_at order text none in let bad = sym no ∙ is in absurd (cc)
      | inr some ↦ elim (cases_lt (length text) 16) [
        | inl short ↦ let bad = sym (record_short order text (omega arith) short) ∙ is in absurd (cc)
        | inr long ↦ elim (cases_lt 262144 (four_at order text 8)) [
          | inl over ↦ let bad = sym (record_over order text long over) ∙ is in absurd (cc)
          | inr fits ↦ elim (cases_lt (length text) (16 + four_at order text 8)) [
            | inl part ↦ let bad = sym (record_part order text long fits part) ∙ is in absurd (cc)
            | inr all_there ↦ whole_parts order text kept rest all (sym (record_whole order text long fits all_there) ∙ is)
          ]
        ]
      ]
    ]

short_take : (n : ℕ) (xs : List ℕ) → length (take n xs) ≤ n
short_take n xs = omega (arith, length-take n xs)

-- a datagram is made of bytes, and no longer than one may be
pub record IsDatagram (bytes : List ℕ) : Type 0 where
  pub few : length bytes ≤ 65575
  pub all : All IsByte bytes

datagram_by : (ip : Bool) (bytes : List ℕ) → All IsByte bytes → IsDatagram (if ip then take 65575 (drop 14 bytes) else [])
datagram_by true bytes all = record { few = short_take 65575 (drop 14 bytes); all = All-take IsByte 65575 (drop 14 bytes) (All-drop IsByte 14 bytes all) }
datagram_by false bytes all = record { few = omega arith; all = All-nil IsByte }

datagram_is : (link : LinkType) (bytes : List ℕ) → All IsByte bytes → IsDatagram (datagram_of link bytes)
datagram_is Raw bytes all = record { few = short_take 65575 bytes; all = All-take IsByte 65575 bytes all }
datagram_is Ethernet bytes all = datagram_by (is_ip bytes) bytes all

-- what lines are read as that have the segments of these packets and no fault
abbrev pub shows : Packets → StoredInput
shows ps = record { stored = map stored_packet ps.list; fault = None }

-- the line of a packet in front of others
one_line : (n seconds : ℕ) (bytes text : List ℕ) (ps : Packets) → seconds < 4294967296 → IsDatagram bytes →
    stored_from (n + 1) (lines_of text) ≡ shows ps →
    stored_from n (lines_of (packet_line seconds bytes ++ 10 ∷ text)) ≡ shows (with_packet (record { number = n; seconds = seconds; datagram = bytes }) ps)
one_line n seconds [] text ps low is others =
    rw (lines_of-line (packet_line seconds []) (packet_line_plain seconds [] low (by_places [] is.all)) text, packet_line_back n seconds [] low is.few (by_places [] is.all), others) refl
one_line n seconds (b ∷ bs) text ps low is others =
    rw (lines_of-line (packet_line seconds (b ∷ bs)) (packet_line_plain seconds (b ∷ bs) low (by_places (b ∷ bs) is.all)) text, packet_line_back n seconds (b ∷ bs) low is.few (by_places (b ∷ bs) is.all), others, ne_eqb (length (b ∷ bs)) 0 (λ e. omega arith)) refl

-- the packets of these records, the first of number n
abbrev shown_as : Head → ℕ → Fronted Kept RecordFault → Packets
shown_as head n records = record { list = with_datagrams head.link n records.items; fault = fault_at (n + length records.items) records.fault }

-- their lines are read as those packets' segments
abbrev AreShown : Head → ℕ → Fronted Kept RecordFault → Type 0
AreShown head n records = stored_from n (lines_of (record_lines head.link records.items)) ≡ shows (shown_as head n records)

by_front : (f : Front Kept RecordFault) (head : Head) (n : ℕ) (text : List ℕ) (others : List ℕ → Fronted Kept RecordFault) → All IsByte text → record_at head.order text ≡ f →
    ((rest : List ℕ) → All IsByte rest → AreShown head (n + 1) (others rest)) → AreShown head n (fronted_by f others)
unfolding lines_of
by_front Ends head n text others all is shown = refl
by_front (Faulted Broken) head n text others all is shown = refl
by_front (Leads kept rest) head n text others all is shown =
    let whole = whole_is head.order text kept rest all is in
    let records = others rest in
    let datagram = datagram_of head.link kept.bytes in
    let p : Packet = record { number = n; seconds = kept.seconds; datagram = datagram } in
    one_line n kept.seconds datagram (record_lines head.link records.items) (shown_as head (n + 1) records) whole.low (datagram_is head.link kept.bytes whole.bytes) (shown rest whole.rest)
    ∙ ap shows (put (length datagram == 0) p (with_datagrams head.link (n + 1) records.items) (fault_at (n + 1 + length records.items) records.fault) refl)

by_count : (k : ℕ) (head : Head) (n : ℕ) (text : List ℕ) → All IsByte text → AreShown head n (fronted_within (record_at head.order) k text)
unfolding lines_of
by_count zero head n text all = refl
by_count (suc k) head n text all =
    by_front (record_at head.order text) head n text (fronted_within (record_at head.order) k) all refl (λ rest rest_all. by_count k head (n + 1) rest rest_all)

behind : (r : Result (Head × List ℕ) HeadFault) → ((head : Head) (body : List ℕ) → r ≡ Ok (head, body) → All IsByte body) → stored_input (lines_behind r) ≡ shows (packets_behind r)
unfolding stored_input packets_in lines_of
behind (Err fault) all = refl
behind (Ok body) all = by_count (suc (length body.1)) body.0 1 body.1 (all body.0 body.1 refl)

rest_all : (r : Result Head HeadFault) (rest : List ℕ) (head : Head) (body : List ℕ) → All IsByte rest → and_rest r rest ≡ Ok (head, body) → All IsByte body
rest_all (Ok found) rest head body all is =
    let pair : ◌≡◌ {A = Head × List ℕ} (found, rest) (head, body) = cc in
    let same : rest ≡ body = ap (λ p. p.1) pair in
    rw (← same) all
rest_all (Err fault) rest head body all is = absurd (cc)

opened_short : (file : List ℕ) → length file < 24 → opened file ≡ Err HeadFault.Short
opened_short file short = rw (lt-ltb (length file) 24 short) refl

opened_long : (file : List ℕ) (head : Head) (body : List ℕ) → 24 ≤ length file → opened file ≡ Ok (head, body) → and_rest (head_of (take 24 file)) (drop 24 file) ≡ Ok (head, body)
opened_long file head body long is = sym (rw (le-ltb (length file) 24 long) refl) ∙ is

opened_all : (file : List ℕ) (head : Head) (body : List ℕ) → All IsByte file → opened file ≡ Ok (head, body) → All IsByte body
opened_all file head body all is = elim (cases_lt (length file) 24) [
  | inl short ↦ let bad = sym (opened_short file short) ∙ is in absurd (cc)
  | inr long ↦ rest_all (head_of (take 24 file)) (drop 24 file) head body (All-drop IsByte 24 file all) (opened_long file head body long is)
]

-- the line form has the segments of the packets, and no fault
pub line_form_shows : (file : List ℕ) → All IsByte file → stored_input (line_form file) ≡ shows (packets_of file)
line_form_shows file all = behind (opened file) (λ head body is. opened_all file head body all is)
