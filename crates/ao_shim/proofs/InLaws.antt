-- What becomes of a datagram from the peer, step by step.
use Rattle.std.proofs.Common.{◌≡◌, ℕ, ◌||◌, Bool, true, false, List, Option, Some, None, Ok, Err, refl, ap, ◌∙◌, if◌then◌else◌}
use Rattle.book_base.specs.declared.address.Pair.{Pair}
use Rattle.book_segments.specs.declared.fault.DatagramFault.{DatagramFault}
use Rattle.book_segments.specs.Sockets.{same_socket}
use Rattle.book_segments.specs.Segments.{Segment, Bad as Unread, Read, reading, has, good, SYN, ACK, RST}
use Rattle.book_keys.specs.Rows.{Row}
use Rattle.book_keys.specs.Coordination.{follow}
use Rattle.book_endpoint.specs.declared.refusal.Refusal.{Refusal}
use Rattle.book_endpoint.specs.declared.refusal.Refusal.TheVariants.{NoContext}
use Rattle.book_endpoint.specs.Verdicts.{Finding, judge}
use Rattle.book_shim.specs.declared.kept.Kept.{Kept}
use Rattle.book_shim.specs.declared.refusal.Untaken.TheVariants.{Bad, Foreign, Unkeyed, Checksum, Refused}
use Rattle.book_shim.specs.Keeping.{Setting, answered_isn, is_keyed}
use Rattle.book_shim.specs.Arriving.{known_in, is_awaited, judged_arrival, handed_on, take_in, take_read, inbound, row_asked, asked_id, may_be_replayed}
use Rattle.ao_shim.specs.Arrivals.{row_heard}

pub unread : (here : Setting) (pair : Pair) (g : Kept) (b : List ℕ) (f : DatagramFault) → reading b ≡ Unread f → inbound here pair g b ≡ Err (Bad f)
unread here pair g b f e = ap (take_read here pair g) e

pub foreign_source : (here : Setting) (pair : Pair) (g : Kept) (b : List ℕ) (d : Segment) → reading b ≡ Read d → same_socket d.source pair.remote ≡ false → inbound here pair g b ≡ Err Foreign
foreign_source here pair g b d e f = ap (take_read here pair g) e ∙ rw f refl

pub foreign_destination : (here : Setting) (pair : Pair) (g : Kept) (b : List ℕ) (d : Segment) → reading b ≡ Read d → same_socket d.source pair.remote ≡ true → same_socket d.destination pair.local ≡ false → inbound here pair g b ≡ Err Foreign
foreign_destination here pair g b d e t f = ap (take_read here pair g) e ∙ rw (t, f) refl

pub from_peer_is : (here : Setting) (pair : Pair) (g : Kept) (b : List ℕ) (d : Segment) → reading b ≡ Read d → same_socket d.source pair.remote ≡ true → same_socket d.destination pair.local ≡ true → inbound here pair g b ≡ take_in here pair g d
from_peer_is here pair g b d e t f = ap (take_read here pair g) e ∙ rw (t, f) refl

pub unkeyed : (here : Setting) (pair : Pair) (g : Kept) (d : Segment) → is_keyed here.rows pair ≡ false → take_in here pair g d ≡ Err Unkeyed
unfolding take_in
unkeyed here pair g d h = rw h refl

pub wrong_sum : (here : Setting) (pair : Pair) (g : Kept) (d : Segment) → is_keyed here.rows pair ≡ true → good d ≡ false → take_in here pair g d ≡ Err Checksum
unfolding take_in
wrong_sum here pair g d h e = rw (h, e) refl

pub refused_as : (here : Setting) (pair : Pair) (g : Kept) (d : Segment) (v : Refusal) → is_keyed here.rows pair ≡ true → good d ≡ true → judged_arrival here pair g d ≡ Err v → take_in here pair g d ≡ Err (Refused v)
unfolding take_in
refused_as here pair g d v h e j = rw (h, e, j) refl

pub taken_as : (here : Setting) (pair : Pair) (g : Kept) (d : Segment) (p : Finding) → is_keyed here.rows pair ≡ true → good d ≡ true → judged_arrival here pair g d ≡ Ok p → take_in here pair g d ≡ Ok (handed_on here pair g d p)
unfolding take_in
taken_as here pair g d p h e j = rw (h, e, j) refl

-- ---- the row that is followed

row_by : (b : Bool) (rows : List Row) (now mtu : ℕ) (pair : Pair) (current : Option ℕ) (id : ℕ)
    → (if b then current else follow current rows pair id now) ≡ row_asked (record { rows = rows; now = now; mtu = mtu }) pair current (if b then None else Some id)
row_by true rows now mtu pair current id = refl
row_by false rows now mtu pair current id = refl

pub row_is : (rows : List Row) (now mtu : ℕ) (pair : Pair) (g : Kept) (d : Segment) (p : Finding)
    → row_heard rows pair now g d p.number p.rnext_key_id ≡ row_asked (record { rows = rows; now = now; mtu = mtu }) pair g.current (asked_id g d p)
row_is rows now mtu pair g d p = row_by (has RST d || may_be_replayed g d p.number) rows now mtu pair g.current p.rnext_key_id

-- ---- the judgement

module _ (here : Setting) (pair : Pair) (g : Kept) (d : Segment) where
  pub not_awaited : has SYN d ≡ true → has ACK d ≡ true → is_awaited g d ≡ false → judged_arrival here pair g d ≡ Err NoContext
  unfolding judged_arrival
  not_awaited s a w = rw (s, a, w) refl

  pub awaited : has SYN d ≡ true → has ACK d ≡ true → is_awaited g d ≡ true
      → judged_arrival here pair g d ≡ judge here.rows pair (record { own_isn = answered_isn d; peer_isn = None; expected = None }) here.now d
  unfolding judged_arrival
  awaited s a w = rw (s, a, w) refl

  pub opening : has SYN d ≡ true → has ACK d ≡ false
      → judged_arrival here pair g d ≡ judge here.rows pair (record { own_isn = answered_isn d; peer_isn = None; expected = None }) here.now d
  unfolding judged_arrival
  opening s a = rw (s, a) refl

  pub later : has SYN d ≡ false → judged_arrival here pair g d ≡ judge here.rows pair (known_in g.isns g.heard) here.now d
  unfolding judged_arrival
  later s = rw s refl
