-- Equal MAC inputs, and equal contexts, come from equal fields.
use Rattle.std.proofs.Common.{◌≡◌, ℕ, ◌+◌, ◌*◌, ◌/◌, ◌%◌, ◌^◌, ◌<◌, ◌≤◌, Bool, true, List, ◌++◌, length, take, drop, replicate, sym, ◌∙◌, arith, length-append, length-take, length-drop}
use Rattle.std.proofs.lemmas.List.{append_cancel_left, length-replicate}
use Rattle.book_base.specs.declared.address.Socket.{Socket}
use Rattle.book_segments.specs.Sockets.{octets}
use Rattle.book_segments.specs.Options.{Ao}
use Rattle.book_segments.specs.Segments.{IpHeader, Ipv4, Ipv6, Segment, tcp_length, pseudo_of, pseudo}
use Rattle.book_segments.proofs.Fields.{put2_law, put4_law, append_split, two_law, SameHeader, header_law}
use Rattle.book_macs.specs.Contexts.{context}
use Rattle.book_macs.specs.MacInput.{covered, mac_input}
use Rattle.book_macs.specs.Meaning.{SameFamily}

-- the pseudo-headers tell the lengths, and what follows
pseudo_law : (i j : IpHeader) (d e : Segment) (r t : List ℕ) → SameFamily i j → length (octets d.source.address) ≡ length (octets e.source.address)
    → length (octets d.destination.address) ≡ length (octets e.destination.address) → pseudo_of i d r ≡ pseudo_of j e t → (tcp_length d % 65536 ≡ tcp_length e % 65536) × (r ≡ t)
pseudo_law (Ipv4 a b c f g o) (Ipv4 a2 b2 c2 f2 g2 o2) d e r t same source destination h =
    let one = append_split (octets d.source.address) (octets e.source.address) _ _ source h in
    let two = append_split (octets d.destination.address) (octets e.destination.address) _ _ destination one.1 in
    let three = two_law _ _ _ _ _ _ two.1 in
    put2_law _ _ _ _ three.2
pseudo_law (Ipv6 a b) (Ipv6 a2 b2) d e r t same source destination h =
    let one = append_split (octets d.source.address) (octets e.source.address) _ _ source h in
    let two = append_split (octets d.destination.address) (octets e.destination.address) _ _ destination one.1 in
    let three = put4_law _ _ _ _ two.1 in
    let size = three.0 in
    let four = two_law _ _ _ _ _ _ three.1 in
    let five = two_law _ _ _ _ _ _ four.2 in
    (omega arith, five.2)
pseudo_law (Ipv4 a b c f g o) (Ipv6 a2 b2) d e r t same source destination h = absurd same
pseudo_law (Ipv6 a b) (Ipv4 a2 b2 c2 f2 g2 o2) d e r t same source destination h = absurd same

-- what equal MAC inputs tell at once
pub record Opened (n m : ℕ) (d e : Segment) (p q : Ao) (f g : Bool) : Type 0 where
  pub extension : n / 4294967296 % 4294967296 ≡ m / 4294967296 % 4294967296
  pub size : tcp_length d % 65536 ≡ tcp_length e % 65536
  pub header : SameHeader d e (covered f d.area p ++ d.payload) (covered g e.area q ++ e.payload)

pub opened : (n m : ℕ) (d e : Segment) (p q : Ao) (f g : Bool) → SameFamily d.ip e.ip → length (octets d.source.address) ≡ length (octets e.source.address)
    → length (octets d.destination.address) ≡ length (octets e.destination.address) → mac_input n d p f ≡ mac_input m e q g → Opened n m d e p q f g
unfolding mac_input pseudo
opened n m d e p q f g same source destination h =
    let one = put4_law _ _ _ _ h in
    let two = pseudo_law d.ip e.ip d e _ _ same source destination one.1 in
    record { extension = one.0; size = two.0; header = header_law d e 0 _ _ two.1 }

-- the area of whole words, and the option in it
pub record Placed (d : Segment) (ao : Ao) : Type 0 where
  pub reserved : d.reserved < 16
  pub words : length d.area % 4 ≡ 0
  pub within : ao.place + 4 + length ao.mac ≤ length d.area

pub length-covered : (area : List ℕ) (ao : Ao) → ao.place + 4 + length ao.mac ≤ length area → length (covered true area ao) ≡ length area
length-covered area ao within =
    let whole = length-append (take (ao.place + 4) area) (replicate {A = ℕ} (length ao.mac) 0 ++ drop (ao.place + 4 + length ao.mac) area) in
    let rest = length-append (replicate {A = ℕ} (length ao.mac) 0) (drop (ao.place + 4 + length ao.mac) area) in
    let before = length-take (ao.place + 4) area in
    let after = length-drop (ao.place + 4 + length ao.mac) area in
    let zeros : length (replicate {A = ℕ} (length ao.mac) 0) ≡ length ao.mac = length-replicate (length ao.mac) 0 in
    omega arith

-- what equal MAC inputs tell where both cover the options
pub record Told (n m : ℕ) (d e : Segment) : Type 0 where
  pub number : n ≡ m
  pub sequence : d.sequence % 4294967296 ≡ e.sequence % 4294967296
  pub acknowledgement : d.acknowledgement % 4294967296 ≡ e.acknowledgement % 4294967296
  pub flags : d.flags ≡ e.flags
  pub window : d.window % 65536 ≡ e.window % 65536
  pub payload : d.payload ≡ e.payload

same_area : (la ra lb rb : ℕ) → 80 + 4 * la + ra ≡ 80 + 4 * lb + rb → la % 4 ≡ 0 → lb % 4 ≡ 0 → ra < 16 → rb < 16 → la ≡ lb
same_area la ra lb rb e a b c d = omega arith

same_number : (n m s t : ℕ) → n < 2 ^ 64 → m < 2 ^ 64 → n % 4294967296 ≡ s % 4294967296 → m % 4294967296 ≡ t % 4294967296
    → n / 4294967296 % 4294967296 ≡ m / 4294967296 % 4294967296 → s % 4294967296 ≡ t % 4294967296 → n ≡ m
same_number n m s t a b c d e f = omega arith

pub told : (n m : ℕ) (d e : Segment) (p q : Ao) → SameFamily d.ip e.ip → length (octets d.source.address) ≡ length (octets e.source.address)
    → length (octets d.destination.address) ≡ length (octets e.destination.address) → Placed d p → Placed e q → n < 2 ^ 64 → m < 2 ^ 64
    → n % 4294967296 ≡ d.sequence % 4294967296 → m % 4294967296 ≡ e.sequence % 4294967296 → mac_input n d p true ≡ mac_input m e q true → Told n m d e
told n m d e p q same source destination pd pe n_in m_in n_is m_is h =
    let o = opened n m d e p q true true same source destination h in
    let areas = same_area (length d.area) d.reserved (length e.area) e.reserved o.header.offset pd.words pe.words pd.reserved pe.reserved in
    let covered_same : length (covered true d.area p) ≡ length (covered true e.area q) =
    length-covered d.area p pd.within ∙ areas ∙ sym (length-covered e.area q pe.within) in
    let rest = append_split (covered true d.area p) (covered true e.area q) _ _ covered_same o.header.rest in
    record {
      number = same_number n m d.sequence e.sequence n_in m_in n_is m_is o.extension o.header.sequence;
      sequence = o.header.sequence;
      acknowledgement = o.header.acknowledgement;
      flags = o.header.flags;
      window = o.header.window;
      payload = rest.1;
    }

-- two contexts of one pair of sockets are equal only with equal initial sequence numbers
pub context_law : (source destination : Socket) (i p j q : ℕ) → i < 2 ^ 32 → p < 2 ^ 32 → j < 2 ^ 32 → q < 2 ^ 32
    → context source destination i p ≡ context source destination j q → (i ≡ j) × (p ≡ q)
unfolding context
context_law source destination i p j q hi hp hj hq e =
    let one = append_cancel_left (octets source.address) _ _ e in
    let two = append_cancel_left (octets destination.address) _ _ one in
    let three = put2_law _ _ _ _ two in
    let four = put2_law _ _ _ _ three.1 in
    let five = put4_law _ _ _ _ four.1 in
    let six = put4_law _ _ _ _ five.1 in
    let first = five.0 in
    let second = six.0 in
    (omega arith, omega arith)
