-- A part of the bytes that a call passed over has no packet.
use Rattle.std.proofs.Common.{◌≡◌, ℕ, ◌+◌, ◌<◌, List, [], ◌++◌, length, take, drop, Option, Some, Result, Ok, Err, refl, sym, ap, ◌∙◌, append_assoc, arith}
use Rattle.std.proofs.lemmas.List.{length-append, length-drop, take-append-drop}
use Rattle.ao_base.specs.Outside.{Side, told}
use Rattle.book_pcap.specs.declared.pcap_head.ByteOrder.{ByteOrder}
use Rattle.book_pcap.specs.declared.pcap_head.Head.{Head}
use Rattle.book_pcap.specs.declared.pcap_head.HeadFault.{HeadFault}
use Rattle.book_base.specs.Fronts.{Front, Ends, Faulted, Leads}
use Rattle.book_pcap.specs.Packets.{RecordFault, Broken, Kept, packets_in, record_at}
use Rattle.book_pcap.proofs.Captures.{packets_step}
use Rattle.pcap_file.specs.declared.packets.PacketStep.TheVariants.{Packet}
use Rattle.pcap_file.specs.Reads.{Reading, Steps, opened_from, packets_after, packets_at}
use Rattle.pcap_file.proofs.Fronts.{head_front, record_front}

-- with more bytes behind a record is the same
record_more : (order : ByteOrder) (text more : List ℕ) (kept : Kept) (rest : List ℕ) → record_at order text ≡ Leads kept rest → record_at order (text ++ more) ≡ Leads kept (rest ++ more)
record_more order text more kept rest is =
    let front = record_front order text kept rest is in
    ap (λ xs. record_at order (xs ++ more)) front.split ∙ (ap (record_at order) (append_assoc front.past rest more) ∙ front.stays (rest ++ more))

-- and so is a header
pub head_more : (had : Option Head) (text more : List ℕ) (head : Head) (body : List ℕ) → opened_from had text ≡ Ok (head, body) → opened_from had (text ++ more) ≡ Ok (head, body ++ more)
head_more had text more head body is =
    let front = head_front had text head body is in
    ap (λ xs. opened_from had (xs ++ more)) front.split ∙ (ap (opened_from had) (append_assoc front.past body more) ∙ front.stays (body ++ more))

-- so nothing is missing where it is whole
none_missing : (order : ByteOrder) (text more left : List ℕ) (one two : Kept) (rest : List ℕ) → record_at order text ≡ Leads one rest → record_at order (text ++ (more ++ left)) ≡ Leads two left →
    length more ≡ 0
none_missing order text more left one two rest is then =
    let whole : Leads one (rest ++ (more ++ left)) ≡ Leads two left = sym (record_more order text (more ++ left) one rest is) ∙ then in
    let same : rest ++ (more ++ left) ≡ left = cc in
    let size : length (rest ++ (more ++ left)) ≡ length left = ap length same in
    omega (arith, size, length-append rest (more ++ left), length-append more left)

-- without a whole record there is no packet
no_packet : (head : Head) (n : ℕ) (text : List ℕ) (front : Front Kept RecordFault) → record_at head.order text ≡ front → ((kept : Kept) (rest : List ℕ) → front ≡ Leads kept rest → ⊥) → (packets_in head n text).list ≡ []
no_packet head n text Ends is none = rw (packets_step head n text, is) refl
no_packet head n text (Faulted Broken) is none = rw (packets_step head n text, is) refl
no_packet head n text (Leads kept rest) is none = absurd (none kept rest refl)

-- with bytes missing there is none
none_part : (before : Reading) (part more left : List ℕ) (head : Head) (body : List ℕ) (kept : Kept) → 0 < length more →
    opened_from before.head (part ++ (more ++ left)) ≡ Ok (head, body) → record_at head.order body ≡ Leads kept left →
    (r : Result (Head × List ℕ) HeadFault) → opened_from before.head part ≡ r → (packets_after before.count r).list ≡ []
none_part before part more left head body kept some opens whole (Err fault) is = refl
none_part before part more left head body kept some opens whole (Ok found) is =
    let then : opened_from before.head (part ++ (more ++ left)) ≡ Ok (found.0, found.1 ++ (more ++ left)) = head_more before.head part (more ++ left) found.0 found.1 is in
    let both : ◌≡◌ {A = Result (Head × List ℕ) HeadFault} (Ok (found.0, found.1 ++ (more ++ left))) (Ok (head, body)) = sym then ∙ opens in
    let pair : ◌≡◌ {A = Head × List ℕ} (found.0, found.1 ++ (more ++ left)) (head, body) = cc in
    let head_is : found.0 ≡ head = ap (λ p. p.0) pair in
    let body_is : found.1 ++ (more ++ left) ≡ body = ap (λ p. p.1) pair in
    let there : record_at found.0.order (found.1 ++ (more ++ left)) ≡ Leads kept left = rw (head_is, body_is) whole in
    no_packet found.0 (before.count + 1) found.1 (record_at found.0.order found.1) refl
    (λ one rest is_whole. let none = none_missing found.0.order found.1 more left one kept rest is_whole there in omega (arith, none, some))

-- a part of what a call passed over
pub none_shorter : (before now : Reading) (a b : Side) (given past : List ℕ) (n : ℕ) → Steps before now a b given Packet → before.kept ++ given ≡ past ++ now.kept → n < length past →
    (packets_at before (take n past)).list ≡ []
none_shorter before now a b given past n steps split short =
    let shows = steps.answers in
    let left : List ℕ = now.kept ++ told b.bytes in
    let more : List ℕ = drop n past in
    let parts : past ++ left ≡ take n past ++ (more ++ left) = ap (λ xs. xs ++ left) (sym (take-append-drop n past)) ∙ append_assoc (take n past) more left in
    let text : (before.kept ++ given) ++ told b.bytes ≡ take n past ++ (more ++ left) =
    ap (λ xs. xs ++ told b.bytes) split ∙ (append_assoc past now.kept (told b.bytes) ∙ parts) in
    let some : 0 < length more = omega (arith, short, length-drop n past) in
    none_part before (take n past) more left shows.head shows.body shows.packet some (ap (opened_from before.head) (sym text) ∙ shows.opens) shows.whole
    (opened_from before.head (take n past)) refl
