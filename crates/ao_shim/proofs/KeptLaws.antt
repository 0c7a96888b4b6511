-- What is kept of a pair, the keys of its connection, and the tables that suit them.
use Rattle.std.proofs.Common.{◌≡◌, ℕ, ◌+◌, ◌-◌, ◌<◌, ◌≤◌, ◌||◌, ◌&&◌, Bool, true, false, List, length, Option, Some, None, refl, sym, ap, subst, ◌∙◌, arith, if◌then◌else◌}
use Rattle.std.specs.Prelude.{slice_get, option_map, max, not}
use Rattle.book_base.specs.declared.address.Pair.{Pair}
use Rattle.book_segments.specs.Segments.{Segment, has, SYN, ACK, segment_length}
use Rattle.book_macs.specs.Contexts.{context_of, context_of_syn, context_of_later, bytes_of}
use Rattle.book_macs.specs.Keys.{traffic_key}
use Rattle.book_keys.specs.Rows.{Row}
use Rattle.ao_kdf.specs.declared.way.Way.{Way}
use Rattle.ao_kdf.specs.declared.way.Way.TheVariants.{Inbound, Outbound}
use Rattle.ao_kdf.specs.Cache.{Cache, empty, kept, IsRight}
use Rattle.ao_kdf.proofs.CacheLaws.{kept-empty}
use Rattle.book_segments.specs.Options.{find_ao}
use Rattle.ao_check.specs.Bonds.{Bond, key_for, Fits, keys_after, Counted}
use Rattle.ao_check.specs.Verdicts.{judging}
use Rattle.ao_check.proofs.KeyLaws.{outbound_key, kept_right, fits_after}
use Rattle.book_shim.specs.declared.kept.Isns.{Isns}
use Rattle.book_shim.specs.declared.kept.Kept.{Kept}
use Rattle.book_shim.specs.Keeping.{own_isn, peer_isn, is_the_number, are_isns, is_opening_syn, answered_isn, connection_begun}
use Rattle.book_shim.specs.Leaving.{opening, accepting, entered, resets, as_late, kept_for, past_sent}
use Rattle.book_shim.specs.Arriving.{answered_anew, joined, admitted, is_of_connection, past_heard}
use Rattle.ao_shim.specs.Guards.{Held, bond, Suits, AreLow, is_single_use}
use Rattle.ao_shim.specs.Plans.{HasKey}
use Rattle.ao_shim.specs.declared.plan.Plan.{Plan}

-- ---- numbers stay at or below 2^63

low_if : (b : Bool) (x y : Kept) → AreLow x → AreLow y → AreLow (if b then x else y)
low_if true x y h k = h
low_if false x y h k = k

begun_low : (g : Kept) (own peer : ℕ) → own < 4294967296 → peer < 4294967296 → AreLow (connection_begun g own peer)
begun_low g own peer a b = record { sent = omega arith; heard = omega arith }

answered_low : (d : Segment) → answered_isn d < 4294967296
answered_low d = omega arith

pub entered_low : (g : Kept) (d : Segment) → AreLow g → d.sequence < 4294967296 → AreLow (entered g d)
entered_low g d h s =
    low_if (has SYN d) _ g
    (low_if (has ACK d) (accepting g d.sequence (answered_isn d)) (opening g d.sequence)
    (low_if (are_isns g.isns d.sequence (answered_isn d)) g (connection_begun g d.sequence (answered_isn d)) h (begun_low g d.sequence (answered_isn d) s (answered_low d)))
    (low_if (is_the_number (own_isn g) d.sequence || is_the_number g.opening d.sequence) g (record g { opening = Some d.sequence; given_up = g.opening; current = None }) h (record { sent = h.sent; heard = h.heard })))
    h

pub admitted_low : (g : Kept) (d : Segment) → AreLow g → d.sequence < 4294967296 → AreLow (admitted g d)
admitted_low g d h s =
    low_if (has SYN d && has ACK d) (joined g (answered_isn d) d.sequence) g
    (low_if (is_the_number g.opening (answered_isn d)) (connection_begun g (answered_isn d) d.sequence) _ (begun_low g (answered_isn d) d.sequence (answered_low d) s)
    (low_if (is_the_number g.given_up (answered_isn d)) (record g { late = Some (record { own = answered_isn d; peer = d.sequence }) }) (answered_anew g (answered_isn d) d.sequence) (record { sent = h.sent; heard = h.heard })
    (low_if (are_isns g.isns (answered_isn d) d.sequence || g.settled) g (record g { isns = Some (record { own = answered_isn d; peer = d.sequence }); heard = d.sequence + 1 }) h (record { sent = h.sent; heard = omega arith }))))
    h

max_low : (a b c : ℕ) → a ≤ c → b ≤ c → max a b ≤ c
max_low a b c h k = grind arith

pub past_sent_low : (g : Kept) (d : Segment) (n : ℕ) → AreLow g → n + segment_length d ≤ 9223372036854775808 → AreLow (past_sent g d n)
past_sent_low g d n h e =
    low_if (is_opening_syn d) g _ h
    (low_if (resets g.late d) (record g { late = None }) (record g { sent = max g.sent (n + segment_length d); settled = g.settled || not (has SYN d) }) (record { sent = h.sent; heard = h.heard })
    (record { sent = max_low g.sent (n + segment_length d) 9223372036854775808 h.sent e; heard = h.heard }))

pub past_heard_low : (g : Kept) (d : Segment) (n : ℕ) → AreLow g → n + segment_length d ≤ 9223372036854775808 → AreLow (past_heard g d n)
past_heard_low g d n h e =
    low_if (is_of_connection g d) (record g { heard = max g.heard (n + segment_length d); settled = g.settled || not (has SYN d) }) g
    (record { sent = h.sent; heard = max_low g.heard (n + segment_length d) 9223372036854775808 h.heard e }) h

-- ---- the connection in use stays

same_if : (b : Bool) (x y : Kept) (i : Option Isns) → x.isns ≡ i → y.isns ≡ i → (if b then x else y).isns ≡ i
same_if true x y i h k = h
same_if false x y i h k = k

pub past_sent_isns : (g : Kept) (d : Segment) (n : ℕ) → (past_sent g d n).isns ≡ g.isns
past_sent_isns g d n =
    same_if (is_opening_syn d) g _ g.isns refl
    (same_if (resets g.late d) (record g { late = None }) (record g { sent = max g.sent (n + segment_length d); settled = g.settled || not (has SYN d) }) g.isns refl refl)

pub past_heard_isns : (g : Kept) (d : Segment) (n : ℕ) → (past_heard g d n).isns ≡ g.isns
past_heard_isns g d n = same_if (is_of_connection g d) (record g { heard = max g.heard (n + segment_length d); settled = g.settled || not (has SYN d) }) g g.isns refl refl

if_false : {X : Type 0} (b : Bool) (x y : X) → b ≡ false → (if b then x else y) ≡ y
if_false true x y e = absurd (cc)
if_false false x y e = refl

pub entered_later : (g : Kept) (d : Segment) → has SYN d ≡ false → entered g d ≡ g
entered_later g d e = if_false (has SYN d) (if has ACK d then accepting g d.sequence (answered_isn d) else opening g d.sequence) g e

-- ---- a key that is used once

or_false : (a b : Bool) → (a || b) ≡ false → (a ≡ false) × (b ≡ false)
or_false true b e = absurd (cc)
or_false false b e = (refl, e)

pub later_kept : (g : Kept) (d : Segment) → is_single_use g d ≡ false → has SYN d ≡ false
later_kept g d e = (or_false (has SYN d) (resets g.late d) e).0

-- where the key is kept, the segment is sealed by what is kept
pub kept_for_kept : (g : Kept) (d : Segment) → is_single_use g d ≡ false → kept_for g d ≡ g
kept_for_kept g d e = if_false (resets g.late d) (as_late g g.late) g (or_false (has SYN d) (resets g.late d) e).1

once_by : (b : Bool) (x g : Kept) (d : Segment) → (b || resets (if b then x else g).late d) ≡ (b || resets g.late d)
once_by true x g d = refl
once_by false x g d = refl

pub once_entered : (g : Kept) (d : Segment) → is_single_use (entered g d) d ≡ is_single_use g d
once_entered g d = once_by (has SYN d) (if has ACK d then accepting g d.sequence (answered_isn d) else opening g d.sequence) g d

-- ---- tables that suit

bond_keys : (pair : Pair) (i : Option Isns) (c : Cache) → (bond pair i c).keys ≡ c
bond_keys pair None c = refl
bond_keys pair (Some isns) c = refl

bond_pair : (pair : Pair) (i : Option Isns) (c : Cache) → (bond pair i c).pair ≡ pair
bond_pair pair None c = refl
bond_pair pair (Some isns) c = refl

pub bond_with : (rows : List Row) (pair : Pair) (i : Option Isns) (c e : Cache)
    → Fits rows (record { pair = (bond pair i c).pair; own = (bond pair i c).own; peer = (bond pair i c).peer; current = (bond pair i c).current; keys = e }) → Fits rows (bond pair i e)
bond_with rows pair None c e f = f
bond_with rows pair (Some isns) c e f = f

bond_current : (pair : Pair) (i : Option Isns) (c : Cache) → (bond pair i c).current ≡ None
bond_current pair None c = refl
bond_current pair (Some isns) c = refl

pub suits_empty : (rows : List Row) (pair : Pair) (g : Kept) (count : ℕ) → length rows ≤ count → Suits rows (record { pair = pair; kept = g; keys = empty count })
suits_empty rows pair g count room = record {
  room = subst (λ (c : Cache). length rows ≤ c.rows) (sym (bond_keys pair g.isns (empty count))) room;
  keys = λ n way k e.
      let none = kept-empty count n way in
      let here : kept (empty count) n way ≡ Some k = ap (λ (c : Cache). kept c n way) (sym (bond_keys pair g.isns (empty count))) ∙ e in
      absurd (cc);
  current = λ n e. let none = bond_current pair g.isns (empty count) in absurd (cc);
}

pub suits_room : (rows : List Row) (g : Held) → Suits rows g → length rows ≤ g.keys.rows
suits_room rows g f = subst (λ (c : Cache). length rows ≤ c.rows) (bond_keys g.pair g.kept.isns g.keys) f.room

-- a table that suits suits where the connection in use is the same
pub suits_same : (rows : List Row) (pair : Pair) (g h : Kept) (c : Cache) → g.isns ≡ h.isns → Suits rows (record { pair = pair; kept = g; keys = c }) → Suits rows (record { pair = pair; kept = h; keys = c })
suits_same rows pair g h c e f = subst (λ (i : Option Isns). Fits rows (bond pair i c)) e f

-- ---- the key to seal with

context_bond : (pair : Pair) (i : Option Isns) (c : Cache) (d : Segment) (x : List ℕ) → context_of d (option_map (λ (y : Isns). y.own) i) (option_map (λ (y : Isns). y.peer) i) ≡ Some x
    → context_of d (Some (bond pair i c).own) (bond pair i c).peer ≡ Some x
unfolding context_of
context_bond pair (Some isns) c d x e = e
context_bond pair None c d x e = by (has SYN d) e
  where
    by : (b : Bool) → (if b then context_of_syn d None else context_of_later d None None) ≡ Some x → (if b then context_of_syn d None else context_of_later d (Some 0) None) ≡ Some x
    by true e = e
    by false e = absurd (cc)

-- the context where the key is kept is that of the connection in use
context_kept : (g : Kept) (d : Segment) (x : List ℕ) → context_of d (own_isn (kept_for g d)) (peer_isn (kept_for g d)) ≡ Some x → is_single_use g d ≡ false → context_of d (own_isn g) (peer_isn g) ≡ Some x
context_kept g d x context once = subst (λ (k : Kept). context_of d (own_isn k) (peer_isn k) ≡ Some x) (kept_for_kept g d once) context

pub has_key : (rows : List Row) (pair : Pair) (c : Cache) (d : Segment) (p : Plan) (r : Row) → Suits rows (record { pair = pair; kept = p.kept; keys = c }) → p.sending.row ≤ length rows
    → context_of d (own_isn (kept_for p.kept d)) (peer_isn (kept_for p.kept d)) ≡ Some (bytes_of p.context) → d.source ≡ pair.local → d.destination ≡ pair.remote → slice_get rows (p.sending.row - 1) ≡ Some r → HasKey c d p r
has_key rows pair c d p r f high context from to here =
    let g : Kept = p.kept in
    let a : Bond = bond pair g.isns c in
    let room = suits_room rows (record { pair = pair; kept = g; keys = c }) f in
    let pairs = bond_pair pair g.isns c in
    let keys = bond_keys pair g.isns c in
    let x = bytes_of p.context in
    record {
      room = omega arith;
      right = λ once.
          let one = outbound_key d a.pair a.own a.peer r x (later_kept g d once) (from ∙ ap (λ (q : Pair). q.local) (sym pairs)) (to ∙ ap (λ (q : Pair). q.remote) (sym pairs)) (context_bond pair g.isns c d x (context_kept g d x context once)) in
          subst (λ (k : Cache). IsRight (kept k p.sending.row Outbound) (traffic_key r.algorithm r.master x)) keys (kept_right rows a p.sending.row Outbound r (traffic_key r.algorithm r.master x) f here one);
    }

-- the table suits once the key was used
pub suits_sealed : (rows : List Row) (pair : Pair) (g : Kept) (c e : Cache) (d : Segment) (p : Plan) (r : Row) → Suits rows (record { pair = pair; kept = g; keys = c })
    → context_of d (own_isn (kept_for g d)) (peer_isn (kept_for g d)) ≡ Some (bytes_of p.context) → d.source ≡ pair.local → d.destination ≡ pair.remote → slice_get rows (p.sending.row - 1) ≡ Some r
    → e ≡ keys_after (is_single_use g d) c p.sending.row Outbound (traffic_key r.algorithm r.master (bytes_of p.context)) → Suits rows (record { pair = pair; kept = g; keys = e })
suits_sealed rows pair g c e d p r f context from to here is =
    let a : Bond = bond pair g.isns c in
    let pairs = bond_pair pair g.isns c in
    let keys = bond_keys pair g.isns c in
    let x = bytes_of p.context in
    let key = traffic_key r.algorithm r.master x in
    let same : e ≡ keys_after (is_single_use g d) a.keys p.sending.row Outbound key = is ∙ ap (λ (k : Cache). keys_after (is_single_use g d) k p.sending.row Outbound key) (sym keys) in
    bond_with rows pair g.isns c e (fits_after (is_single_use g d) rows a p.sending.row Outbound key e same
    (λ once. ap (λ (o : Option Row). key_for o Outbound a.pair a.own a.peer) here
    ∙ outbound_key d a.pair a.own a.peer r x (later_kept g d once) (from ∙ ap (λ (q : Pair). q.local) (sym pairs)) (to ∙ ap (λ (q : Pair). q.remote) (sym pairs)) (context_bond pair g.isns c d x (context_kept g d x context once))) f)

-- another connection, whose keys aren't kept
pub suits_other : (rows : List Row) (pair : Pair) (g h : Kept) (c : Cache) → Suits rows (record { pair = pair; kept = g; keys = c }) → Suits rows (record { pair = pair; kept = h; keys = empty c.rows })
suits_other rows pair g h c f = suits_empty rows pair h c.rows (suits_room rows (record { pair = pair; kept = g; keys = c }) f)

pub admitted_later : (g : Kept) (d : Segment) → has SYN d ≡ false → admitted g d ≡ g
admitted_later g d e = by (has SYN d) (has ACK d) e
  where
    by : (a b : Bool) → a ≡ false → (if a && b then joined g (answered_isn d) d.sequence else g) ≡ g
    by true b e = absurd (cc)
    by false b e = refl

-- ---- no step

pub idle_counted : (c : Cache) (row : Option ℕ) (way : Way) (n : ℕ) → Counted c c row false way false n n
idle_counted c row way n = record {
  room = refl;
  least = omega arith;
  most = omega arith;
  idle = λ e. (refl, refl);
  none = λ m k s r h. refl;
  derived = λ m s r more. absurd (omega arith);
  stays = λ m w k h. h;
}

-- the work on a segment without SYN, whichever it is read as
abbrev pub Counts : List Row → Pair → (now : ℕ) → (before after : Cache) → Segment → (old new : ℕ) → Type 0
Counts rows pair now before after d old new = (b : Bool) × Counted before after (judging rows pair now (find_ao d.area)) b Inbound false old new

pub counts_same : (rows : List Row) (pair : Pair) (now : ℕ) (before mid after : Cache) (d e : Segment) (g k : Kept) (n old new : ℕ) → d ≡ e → has SYN e ≡ false → k.isns ≡ (past_heard (admitted g d) d n).isns
    → (g.isns ≡ k.isns → after ≡ mid) → (has SYN d ≡ false → Counts rows pair now before mid d old new) → Counts rows pair now before after e old new
counts_same rows pair now before mid after d e g k n old new same syn isns renewed count =
    let later : has SYN d ≡ false = ap (λ (x : Segment). has SYN x) same ∙ syn in
    let stays : g.isns ≡ k.isns = sym (isns ∙ (past_heard_isns (admitted g d) d n ∙ ap (λ (x : Kept). x.isns) (admitted_later g d later))) in
    subst (λ (c : Cache). Counts rows pair now before c e old new) (sym (renewed stays)) (subst (λ (x : Segment). Counts rows pair now before mid x old new) same (count later))
