-- What an end makes fits its places, in whatever state.
use Rattle.std.proofs.Common.{◌≡◌, ℕ, zero, suc, ◌+◌, ◌-◌, ◌%◌, ◌<◌, ◌≤◌, min, nat_lt, Bool, true, false, List, [], ◌∷◌, length, take, drop, Option, Some, None, refl, sym, ap, subst, arith, if◌then◌else◌, inl, inr}
use Rattle.std.proofs.lemmas.List.{length-replicate}
use Rattle.book_base.specs.declared.address.Address.{Address}
use Rattle.book_base.specs.declared.address.Address.TheVariants.{V4, V6}
use Rattle.book_base.specs.declared.address.Pair.{Pair}
use Rattle.book_base.specs.Algorithms.{mac_length_of}
use Rattle.book_segments.specs.Bytes.{put2, ring}
use Rattle.book_segments.specs.Segments.{IpHeader, Ipv4, Ipv6, Segment, SYN, ACK, RST}
use Rattle.book_segments.specs.Spelling.{FitsIp, IsV4, IsV6}
use Rattle.book_macs.proofs.LengthLaws.{twelve_or_sixteen}
use Rattle.book_macs.specs.Contexts.{context_of}
use Rattle.book_macs.specs.Meaning.{SameFamily}
use Rattle.book_keys.specs.Coordination.{Sending, choose}
use Rattle.book_keys.specs.Rows.{Row}
use Rattle.book_endpoint.specs.Emissions.{Draft, Emission, Emits, Due, Rst, Syn, SynAck, Data, Fin, Ack, slice_at, fitting, draft_next, draft_again, due_next, due_again, data_draft, again_draft, fin_again_draft, fin_draft, most_bytes, ao_length, sets, no_mac, blank, sealed, written_area, written_ip, seal_known, made_if_due, emit, resend}
use Rattle.book_endpoint.specs.States.{EndState, own_mss, ready_count}
use Rattle.law_shim.proofs.Meanings.{Sized}

-- ---- how much a draft carries

taken_most : (n : ℕ) (xs : List ℕ) → length (take n xs) ≤ n
taken_most zero xs = omega arith
taken_most (suc n) [] = omega arith
taken_most (suc n) (x ∷ xs) = let more = taken_most n xs in omega arith

slice_most : (s : EndState) (number count : ℕ) → length (slice_at s number count) ≤ count
slice_most s number count = taken_most count (drop (number - (s.isn + 1)) s.given)

short_slice : (s : EndState) (number count : ℕ) → count ≤ 1460 → length (slice_at s number count) ≤ 1460
short_slice s number count h = let most = slice_most s number count in omega arith

-- a draft is short, and of the connection of the end
pub record Fine (s : EndState) (out : Draft) : Type 0 where
  pub short : length out.payload ≤ 1460
  pub own : out.state.isn ≡ s.isn
  pub peer : out.state.peer_isn ≡ s.peer_isn

fine_next : (s : EndState) (due : Due) (most : ℕ) → most ≤ 1460 → Fine s (draft_next s due most)
fine_next s Rst most h = record { short = omega arith; own = refl; peer = refl }
fine_next s Syn most h = record { short = omega arith; own = refl; peer = refl }
fine_next s SynAck most h = record { short = omega arith; own = refl; peer = refl }
fine_next s Data most h = record { short = short_slice s s.next (fitting s most) (omega arith); own = refl; peer = refl }
fine_next s Fin most h = record { short = omega arith; own = refl; peer = refl }
fine_next s Ack most h = record { short = omega arith; own = refl; peer = refl }

fine_data : (b : Bool) (s : EndState) (most : ℕ) → most ≤ 1460 → Fine s (if b then again_draft s (min (s.next - s.una) most) else data_draft s 1)
fine_data true s most h = record { short = short_slice s s.una (min (s.next - s.una) most) (omega arith); own = refl; peer = refl }
fine_data false s most h = record { short = short_slice s s.next 1 (omega arith); own = refl; peer = refl }

fine_fin : (b : Bool) (s : EndState) → Fine s (if b then fin_again_draft s else fin_draft s)
fine_fin true s = record { short = omega arith; own = refl; peer = refl }
fine_fin false s = record { short = omega arith; own = refl; peer = refl }

fine_again : (s : EndState) (due : Due) (most : ℕ) → most ≤ 1460 → Fine s (draft_again s due most)
fine_again s Rst most h = fine_next s Rst most h
fine_again s Syn most h = record { short = omega arith; own = refl; peer = refl }
fine_again s SynAck most h = record { short = omega arith; own = refl; peer = refl }
fine_again s Data most h = fine_data (nat_lt s.una s.next) s most h
fine_again s Fin most h = fine_fin (nat_lt s.una s.next) s
fine_again s Ack most h = fine_next s Ack most h

most_of : (a : Address) (mss more : ℕ) → min (own_mss a) mss - more ≤ 1460
most_of (V4 bytes) mss more = omega arith
most_of (V6 bytes) mss more = omega arith

most_short : (pair : Pair) (s : EndState) (sending : Sending) → most_bytes pair s sending ≤ 1460
most_short pair s sending = most_of pair.local.address s.mss (ao_length sending)

-- ---- what is made

-- how an end came to a segment
pub record IsEmission (pair : Pair) (e : Emission) : Type 0 where
  pub state : EndState
  pub draft : Draft
  pub sending : Sending
  pub context : List ℕ
  pub is : e ≡ sealed pair state draft sending context
  pub known : context_of (blank pair state draft sending) (Some state.isn) state.peer_isn ≡ Some context
  pub fine : Fine state draft

emits_is : (x y : Emission) → Emits x ≡ Emits y → x ≡ y
emits_is x y e = cc

known_is : (pair : Pair) (s : EndState) (out : Draft) (sending : Sending) (c : Option (List ℕ)) (e : Emission) → Fine s out → context_of (blank pair s out sending) (Some s.isn) s.peer_isn ≡ c
    → seal_known pair s out sending c ≡ Emits e → IsEmission pair e
known_is pair s out sending None e fine known is = absurd (cc)
known_is pair s out sending (Some c) e fine known is =
    record { state = s; draft = out; sending = sending; context = c; is = sym (emits_is (sealed pair s out sending c) e is); known = known; fine = fine }

due_is : (pair : Pair) (s : EndState) (draft : Due → ℕ → Draft) (due : Option Due) (row : Option Sending) (e : Emission) → ((d : Due) (most : ℕ) → most ≤ 1460 → Fine s (draft d most))
    → made_if_due pair s draft due row ≡ Emits e → IsEmission pair e
due_is pair s draft None row e fine is = absurd (cc)
due_is pair s draft (Some d) None e fine is = absurd (cc)
due_is pair s draft (Some d) (Some sending) e fine is =
    let out = draft d (most_bytes pair s sending) in
    known_is pair s out sending (context_of (blank pair s out sending) (Some s.isn) s.peer_isn) e (fine d (most_bytes pair s sending) (most_short pair s sending)) refl is

pub emitted_is : (rows : List Row) (pair : Pair) (now : ℕ) (s : EndState) (e : Emission) → emit rows pair now s ≡ Emits e → IsEmission pair e
unfolding emit
emitted_is rows pair now s e is = due_is pair s (draft_next s) (due_next s) (choose s.current rows pair now) e (fine_next s) is

pub resent_is : (rows : List Row) (pair : Pair) (now : ℕ) (s : EndState) (e : Emission) → resend rows pair now s ≡ Emits e → IsEmission pair e
unfolding resend
resent_is rows pair now s e is = due_is pair s (draft_again s) (due_again s) (choose s.current rows pair now) e (fine_again s) is

-- ---- it fits its places

area_sized : (pair : Pair) (syn : Bool) (sending : Sending) → (length (written_area pair syn sending (no_mac sending)) % 4 ≡ 0) × (length (written_area pair syn sending (no_mac sending)) ≤ 40)
unfolding put2
area_sized pair true sending =
    let n : length (no_mac sending) ≡ mac_length_of sending.row.algorithm = length-replicate (mac_length_of sending.row.algorithm) 0 in
    elim (twelve_or_sixteen sending.row.algorithm) [ inl e ↦ (omega arith, omega arith) | inr e ↦ (omega arith, omega arith) ]
area_sized pair false sending =
    let n : length (no_mac sending) ≡ mac_length_of sending.row.algorithm = length-replicate (mac_length_of sending.row.algorithm) 0 in
    elim (twelve_or_sixteen sending.row.algorithm) [ inl e ↦ (omega arith, omega arith) | inr e ↦ (omega arith, omega arith) ]

told_by : (r a : Bool) (n : ℕ) → (if r then 0 else (if a then 65535 - n else 65535)) < 65536
told_by true a n = omega arith
told_by false true n = omega arith
told_by false false n = omega arith

acknowledged_by : (a : Bool) (n : ℕ) → (if a then n % ring else 0) < 4294967296
acknowledged_by true n = omega arith
acknowledged_by false n = omega arith

pub blank_sized : (pair : Pair) (s : EndState) (out : Draft) (sending : Sending) → length out.payload ≤ 1460 → Sized (blank pair s out sending)
blank_sized pair s out sending short =
    let area = area_sized pair (sets out.flags SYN) sending in
    let most = area.1 in
    record {
      total = omega arith;
      words = area.0;
      reserved = omega arith;
      sequence = omega arith;
      acknowledgement = acknowledged_by (sets out.flags ACK) s.expected;
      window = told_by (sets out.flags RST) (sets out.flags ACK) (ready_count s);
      urgent = omega arith;
    }

family_by : (a : Address) (i : IpHeader) (pair : Pair) (size : ℕ) (d : Segment) → d.source.address ≡ a → FitsIp i d → SameFamily (written_ip pair size a) i
family_by (V4 bytes) (Ipv4 b c f g h o) pair size d is fits = tt
family_by (V6 bytes) (Ipv6 b c) pair size d is fits = tt
family_by (V4 bytes) (Ipv6 b c) pair size d is fits = absurd (subst IsV6 is fits.source)
family_by (V6 bytes) (Ipv4 b c f g h o) pair size d is fits = absurd (subst IsV4 is fits.source)

pub written_family : (pair : Pair) (s : EndState) (out : Draft) (sending : Sending) (d : Segment) → d.source ≡ pair.local → FitsIp d.ip d → SameFamily (blank pair s out sending).ip d.ip
written_family pair s out sending d is fits = family_by pair.local.address d.ip pair _ d (ap (λ x. x.address) is) fits
