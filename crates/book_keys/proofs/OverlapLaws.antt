-- The test for overlap is the relation, and the two rows that are found are the least.
use Rattle.std.proofs.Common.{rules, Decides, ◌≡◌, inl, inr, ℕ, zero, suc, ◌+◌, ◌-◌, ◌<◌, ◌≤◌, max, min, Bool, true, false, List, [], ◌∷◌, length, get_or, Option, Some, None, refl, sym, subst, ap, cond, arith}
use Rattle.std.specs.List.{list_any, position_from}
use Rattle.std.specs.Option.{option_or}
use Rattle.std.specs.Prelude.{option_map}
use Rattle.std.proofs.lemmas.Bool.{and_parts, and_from, or_cases, or_left, or_right, eqb-true, eq-eqb, leb-true, le-leb, cases_order}
use Rattle.std.proofs.lemmas.Slice.Eq.{compares_Decides}
use Rattle.book_base.specs.declared.address.Address.{Address}
use Rattle.book_base.specs.declared.address.Address.TheVariants.{V4, V6}
use Rattle.book_base.specs.declared.address.Pair.{Pair}
use Rattle.book_keys.specs.declared.lifetime.Lifetime.{Lifetime}
use Rattle.book_keys.specs.Lifetimes.{contains}
use Rattle.book_segments.specs.Bytes.{same_bytes}
use Rattle.book_segments.specs.Sockets.{same_address}
use Rattle.book_keys.specs.Rows.{Row, names, fits_port, matches, sendable, acceptable}
use Rattle.book_keys.specs.Overlaps.{BothAccept, BothSend, Overlap, peer_meets, peers_meet, ports_meet, lifetimes_meet, pairs_meet, accepts_meet, sends_meet, overlaps, AreApart, IsValid, TwoRows, two_rows, first_overlap, overlap_at, IsFirstOverlap}
use Rattle.book_segments.proofs.SocketLaws.{same_address-refl}

same_bytes-Decides : (a b : List ℕ) → Decides (same_bytes a b) (a ≡ b)
same_bytes-Decides = compares_Decides same_bytes (search rules)

pub same_address-true : (a b : Address) → same_address a b ≡ true → a ≡ b
same_address-true (V4 a) (V4 b) h = ap V4 ((same_bytes-Decides a b).0 h)
same_address-true (V6 a) (V6 b) h = ap V6 ((same_bytes-Decides a b).0 h)
same_address-true (V4 a) (V6 b) h = absurd (cc)
same_address-true (V6 a) (V4 b) h = absurd (cc)

-- peers

one_name : (p q : Option Address) → peer_meets p q ≡ true → (a : Address) × (names p a ≡ true) × (names q a ≡ true)
one_name None None h = (V4 (0 ∷ 0 ∷ 0 ∷ 0 ∷ []), refl, refl)
one_name None (Some b) h = (b, refl, same_address-refl b)
one_name (Some a) None h = (a, same_address-refl a, refl)
one_name (Some a) (Some b) h = (a, same_address-refl a, subst (λ (x : Address). same_address b x ≡ true) (sym (same_address-true a b h)) (same_address-refl b))

names-meet : (p q : Option Address) (a : Address) → names p a ≡ true → names q a ≡ true → peer_meets p q ≡ true
names-meet None q a hp hq = refl
names-meet (Some x) None a hp hq = refl
names-meet (Some x) (Some y) a hp hq = rw (same_address-true x a hp, same_address-true y a hq) (same_address-refl a)

abbrev named : List (Option Address) → Address → Bool
named ps a = list_any (λ peer. names peer a) ps

name_among : (p : Option Address) (qs : List (Option Address)) → list_any (peer_meets p) qs ≡ true → (a : Address) × (names p a ≡ true) × (named qs a ≡ true)
name_among p [] h = absurd (cc)
name_among p (q ∷ qs) h = elim (or_cases (peer_meets p q) (list_any (peer_meets p) qs) h) [
  | inl here ↦ let w = one_name p q here in (w.0, w.1, or_left (names q w.0) (named qs w.0) w.2)
  | inr more ↦ let w = name_among p qs more in (w.0, w.1, or_right (names q w.0) (named qs w.0) w.2)
]

pub common_name : (ps qs : List (Option Address)) → peers_meet ps qs ≡ true → (a : Address) × (named ps a ≡ true) × (named qs a ≡ true)
common_name [] qs h = absurd (cc)
common_name (p ∷ ps) qs h = elim (or_cases (list_any (peer_meets p) qs) (peers_meet ps qs) h) [
  | inl here ↦ let w = name_among p qs here in (w.0, or_left (names p w.0) (named ps w.0) w.1, w.2)
  | inr more ↦ let w = common_name ps qs more in (w.0, or_right (names p w.0) (named ps w.0) w.1, w.2)
]

meets_among : (p : Option Address) (qs : List (Option Address)) (a : Address) → names p a ≡ true → named qs a ≡ true → list_any (peer_meets p) qs ≡ true
meets_among p [] a hp h = absurd (cc)
meets_among p (q ∷ qs) a hp h = elim (or_cases (names q a) (named qs a) h) [
  | inl here ↦ or_left (peer_meets p q) (list_any (peer_meets p) qs) (names-meet p q a hp here)
  | inr more ↦ or_right (peer_meets p q) (list_any (peer_meets p) qs) (meets_among p qs a hp more)
]

pub named-meet : (ps qs : List (Option Address)) (a : Address) → named ps a ≡ true → named qs a ≡ true → peers_meet ps qs ≡ true
named-meet [] qs a h hq = absurd (cc)
named-meet (p ∷ ps) qs a h hq = elim (or_cases (names p a) (named ps a) h) [
  | inl here ↦ or_left (list_any (peer_meets p) qs) (peers_meet ps qs) (meets_among p qs a here hq)
  | inr more ↦ or_right (list_any (peer_meets p) qs) (peers_meet ps qs) (named-meet ps qs a more hq)
]

-- ports and lifetimes

common_port : (p q : Option ℕ) → ports_meet p q ≡ true → (port : ℕ) × (fits_port p port ≡ true) × (fits_port q port ≡ true)
common_port None None h = (0, refl, refl)
common_port None (Some b) h = (b, refl, eq-eqb b b refl)
common_port (Some a) None h = (a, eq-eqb a a refl, refl)
common_port (Some a) (Some b) h = (a, eq-eqb a a refl, eq-eqb b a (sym (eqb-true a b h)))

ports-meet : (p q : Option ℕ) (port : ℕ) → fits_port p port ≡ true → fits_port q port ≡ true → ports_meet p q ≡ true
ports-meet None q port hp hq = refl
ports-meet (Some a) None port hp hq = refl
ports-meet (Some a) (Some b) port hp hq = let one = eqb-true a port hp in let two = eqb-true b port hq in eq-eqb a b (cc)

common_time : (a b : Lifetime) → lifetimes_meet a b ≡ true → (contains a (max a.first b.first) ≡ true) × (contains b (max a.first b.first) ≡ true)
common_time a b h =
    let le : max a.first b.first ≤ min a.last b.last = leb-true _ _ h in (
      and_from _ _ (le-leb a.first (max a.first b.first) (omega arith)) (le-leb (max a.first b.first) a.last (omega arith)),
      and_from _ _ (le-leb b.first (max a.first b.first) (omega arith)) (le-leb (max a.first b.first) b.last (omega arith)),
    )

lives-meet : (a b : Lifetime) (t : ℕ) → contains a t ≡ true → contains b t ≡ true → lifetimes_meet a b ≡ true
lives-meet a b t ha hb =
    let p = and_parts _ _ ha in
    let q = and_parts _ _ hb in
    let a0 : a.first ≤ t = leb-true _ _ p.0 in
    let a1 : t ≤ a.last = leb-true _ _ p.1 in
    let b0 : b.first ≤ t = leb-true _ _ q.0 in
    let b1 : t ≤ b.last = leb-true _ _ q.1 in
    le-leb (max a.first b.first) (min a.last b.last) (omega arith)

-- pairs

pub common_pair : (a b : Row) → pairs_meet a b ≡ true → (pair : Pair) × (matches a pair ≡ true) × (matches b pair ≡ true)
common_pair a b h =
    let p = and_parts _ _ h in
    let q = and_parts _ _ p.0 in
    let peer = common_name a.peers b.peers p.1 in
    let near = common_port a.local_port b.local_port q.0 in
    let far = common_port a.peer_port b.peer_port q.1 in (
      record { local = record { address = peer.0; port = near.0 }; remote = record { address = peer.0; port = far.0 } },
      and_from _ _ peer.1 (and_from _ _ near.1 far.1),
      and_from _ _ peer.2 (and_from _ _ near.2 far.2),
    )

pub pairs-meet : (a b : Row) (pair : Pair) → matches a pair ≡ true → matches b pair ≡ true → pairs_meet a b ≡ true
pairs-meet a b pair ha hb =
    let p = and_parts _ _ ha in
    let q = and_parts _ _ hb in
    let p1 = and_parts _ _ p.1 in
    let q1 = and_parts _ _ q.1 in
    and_from _ _ (and_from _ _ (ports-meet a.local_port b.local_port pair.local.port p1.0 q1.0) (ports-meet a.peer_port b.peer_port pair.remote.port p1.1 q1.1))
    (named-meet a.peers b.peers pair.remote.address p.0 q.0)

-- the test and the relation

both_accept : (a b : Row) → pairs_meet a b ≡ true → accepts_meet a b ≡ true → Overlap a b
both_accept a b h k =
    let w = common_pair a b h in
    let p = and_parts _ _ k in
    let d = and_parts _ _ p.0 in
    let q = and_parts _ _ p.1 in
    let t = common_time a.accepting b.accepting q.1 in (
      w.0,
      max a.accepting.first b.accepting.first,
      inl (record {
        one_id = eqb-true a.recv_id b.recv_id q.0;
        left = and_from _ _ w.1 (and_from _ _ d.0 t.0);
        right = and_from _ _ w.2 (and_from _ _ d.1 t.1);
      }),
    )

both_send : (a b : Row) → pairs_meet a b ≡ true → sends_meet a b ≡ true → Overlap a b
both_send a b h k =
    let w = common_pair a b h in
    let p = and_parts _ _ k in
    let d = and_parts _ _ p.0 in
    let q = and_parts _ _ p.1 in
    let t = common_time a.sending b.sending q.1 in (
      w.0,
      max a.sending.first b.sending.first,
      inr (record {
        one_id = eqb-true a.send_id b.send_id q.0;
        left = and_from _ _ w.1 (and_from _ _ d.0 t.0);
        right = and_from _ _ w.2 (and_from _ _ d.1 t.1);
      }),
    )

pub overlaps-Overlap : (a b : Row) → overlaps a b ≡ true → Overlap a b
unfolding overlaps
overlaps-Overlap a b h =
    let p = and_parts _ _ h in
    elim (or_cases (accepts_meet a b) (sends_meet a b) p.0) [
      | inl k ↦ both_accept a b p.1 k
      | inr k ↦ both_send a b p.1 k
    ]

accept_test : (a b : Row) (pair : Pair) (time : ℕ) → BothAccept a b pair time → overlaps a b ≡ true
unfolding overlaps
accept_test a b pair time w =
    let p = and_parts _ _ w.left in
    let q = and_parts _ _ w.right in
    let p1 = and_parts _ _ p.1 in
    let q1 = and_parts _ _ q.1 in
    let meet = and_from _ _ (and_from _ _ p1.0 q1.0) (and_from _ _ (eq-eqb a.recv_id b.recv_id w.one_id) (lives-meet a.accepting b.accepting time p1.1 q1.1)) in
    and_from _ _ (or_left (accepts_meet a b) (sends_meet a b) meet) (pairs-meet a b pair p.0 q.0)

send_test : (a b : Row) (pair : Pair) (time : ℕ) → BothSend a b pair time → overlaps a b ≡ true
unfolding overlaps
send_test a b pair time w =
    let p = and_parts _ _ w.left in
    let q = and_parts _ _ w.right in
    let p1 = and_parts _ _ p.1 in
    let q1 = and_parts _ _ q.1 in
    let meet = and_from _ _ (and_from _ _ p1.0 q1.0) (and_from _ _ (eq-eqb a.send_id b.send_id w.one_id) (lives-meet a.sending b.sending time p1.1 q1.1)) in
    and_from _ _ (or_right (accepts_meet a b) (sends_meet a b) meet) (pairs-meet a b pair p.0 q.0)

pub Overlap-overlaps : (a b : Row) → Overlap a b → overlaps a b ≡ true
Overlap-overlaps a b w = elim w.2 [
  | inl k ↦ accept_test a b w.0 w.1 k
  | inr k ↦ send_test a b w.0 w.1 k
]

-- at most one row under an id

apart : (rows : List Row) (j k : ℕ) (d : Row) → AreApart rows → k < length rows → j < k → overlaps (get_or rows j d) (get_or rows k d) ≡ true → ⊥
apart rows j k d valid lt less h = let no = valid j k d less lt in cc

module _ (rows : List Row) (pair : Pair) (time j k : ℕ) (d : Row) (valid : IsValid rows) (j_in : j < length rows) (k_in : k < length rows) where
  pub one_accepts : acceptable pair time (get_or rows j d) ≡ true → acceptable pair time (get_or rows k d) ≡ true → (get_or rows j d).recv_id ≡ (get_or rows k d).recv_id → j ≡ k
  one_accepts hj hk e = elim (cases_order j k) [
    | inl same ↦ same
    | inr (inl less) ↦ absurd (apart rows j k d valid.apart k_in less (accept_test _ _ pair time (record { one_id = e; left = hj; right = hk })))
    | inr (inr more) ↦ absurd (apart rows k j d valid.apart j_in more (accept_test _ _ pair time (record { one_id = sym e; left = hk; right = hj })))
  ]

  pub one_sends : sendable pair time (get_or rows j d) ≡ true → sendable pair time (get_or rows k d) ≡ true → (get_or rows j d).send_id ≡ (get_or rows k d).send_id → j ≡ k
  one_sends hj hk e = elim (cases_order j k) [
    | inl same ↦ same
    | inr (inl less) ↦ absurd (apart rows j k d valid.apart k_in less (send_test _ _ pair time (record { one_id = e; left = hj; right = hk })))
    | inr (inr more) ↦ absurd (apart rows k j d valid.apart j_in more (send_test _ _ pair time (record { one_id = sym e; left = hk; right = hj })))
  ]

-- the least two rows

-- the first of these rows, from number n on, that overlaps a
record Partner (a : Row) (n : ℕ) (rows : List Row) (s : ℕ) : Type 0 where
  index : ℕ
  counted : s ≡ n + index
  within : index < length rows
  overlap : (d : Row) → overlaps a (get_or rows index d) ≡ true
  before : (k : ℕ) (d : Row) → k < index → overlaps a (get_or rows k d) ≡ false

abbrev Apart : Row → List Row → Type 0
Apart a rows = (k : ℕ) (d : Row) → k < length rows → overlaps a (get_or rows k d) ≡ false

apart_cons : (a b : Row) (rows : List Row) → overlaps a b ≡ false → Apart a rows → Apart a (b ∷ rows)
apart_cons a b rows here more zero d lt = here
apart_cons a b rows here more (suc k) d lt = more k d (omega arith)

before_cons : (a b : Row) (rows : List Row) (i : ℕ) → overlaps a b ≡ false → ((k : ℕ) (d : Row) → k < i → overlaps a (get_or rows k d) ≡ false) → (k : ℕ) (d : Row) → k < suc i → overlaps a (get_or (b ∷ rows) k d) ≡ false
before_cons a b rows i here more zero d lt = here
before_cons a b rows i here more (suc k) d lt = more k d (omega arith)

partner_by : (a b : Row) (n : ℕ) (rows : List Row) (t : Bool) (s : ℕ) → overlaps a b ≡ t → ((s : ℕ) → position_from (overlaps a) (n + 1) rows ≡ Some s → Partner a (n + 1) rows s) → cond t (Some n) (position_from (overlaps a) (n + 1) rows) ≡ Some s → Partner a n (b ∷ rows) s
partner_by a b n rows true s h more e = record { index = 0; counted = let one : n ≡ s = cc in omega (arith, sym one); within = omega arith; overlap = λ d. h; before = λ k d lt. absurd (omega arith) }
partner_by a b n rows false s h more e =
    let p = more s e in
    record { index = suc p.index; counted = omega (arith, p.counted); within = omega (arith, p.within); overlap = p.overlap; before = before_cons a b rows p.index h p.before }

partner_some : (a : Row) (n : ℕ) (rows : List Row) (s : ℕ) → position_from (overlaps a) n rows ≡ Some s → Partner a n rows s
partner_some a n [] s e = absurd (cc)
partner_some a n (b ∷ rows) s e = partner_by a b n rows (overlaps a b) s refl (partner_some a (n + 1) rows) e

apart_by : (a b : Row) (n : ℕ) (rows : List Row) (t : Bool) → overlaps a b ≡ t → (position_from (overlaps a) (n + 1) rows ≡ None → Apart a rows) → cond t (Some n) (position_from (overlaps a) (n + 1) rows) ≡ None → Apart a (b ∷ rows)
apart_by a b n rows true h more e = absurd (cc)
apart_by a b n rows false h more e = apart_cons a b rows h (more e)

partner_none : (a : Row) (n : ℕ) (rows : List Row) → position_from (overlaps a) n rows ≡ None → Apart a rows
partner_none a n [] e = λ k d lt. absurd (omega arith)
partner_none a n (b ∷ rows) e = apart_by a b n rows (overlaps a b) refl (partner_none a (n + 1) rows) e

-- the first two of these rows, from number n on, that overlap
record FirstTwo (n : ℕ) (rows : List Row) (two : TwoRows) : Type 0 where
  i : ℕ
  j : ℕ
  first : two.first ≡ n + i
  second : two.second ≡ n + j
  ordered : i < j
  within : j < length rows
  overlap : (d : Row) → overlap_at rows d i j ≡ true
  earlier : (g k : ℕ) (d : Row) → g < i → g < k → k < length rows → overlap_at rows d g k ≡ false
  beside : (k : ℕ) (d : Row) → i < k → k < j → overlap_at rows d i k ≡ false

beside_head : (a : Row) (rest : List Row) (i : ℕ) → ((k : ℕ) (d : Row) → k < i → overlaps a (get_or rest k d) ≡ false) → (k : ℕ) (d : Row) → 0 < k → k < suc i → overlap_at (a ∷ rest) d 0 k ≡ false
beside_head a rest i before zero d pos lt = absurd (omega arith)
beside_head a rest i before (suc k) d pos lt = before k d (omega arith)

at_head : (a : Row) (n : ℕ) (rest : List Row) (s : ℕ) → Partner a (n + 1) rest s → FirstTwo n (a ∷ rest) (record { first = n; second = s })
at_head a n rest s p = record {
  i = 0;
  j = suc p.index;
  first = omega arith;
  second = omega (arith, p.counted);
  ordered = omega arith;
  within = omega (arith, p.within);
  overlap = p.overlap;
  earlier = λ g k d lt. absurd (omega arith);
  beside = beside_head a rest p.index p.before;
}

earlier_cons : (a : Row) (rest : List Row) (i : ℕ) → Apart a rest → ((g k : ℕ) (d : Row) → g < i → g < k → k < length rest → overlap_at rest d g k ≡ false) → (g k : ℕ) (d : Row) → g < suc i → g < k → k < length (a ∷ rest) → overlap_at (a ∷ rest) d g k ≡ false
earlier_cons a rest i none more zero zero d lt less within = absurd (omega arith)
earlier_cons a rest i none more zero (suc k) d lt less within = none k d (omega arith)
earlier_cons a rest i none more (suc g) zero d lt less within = absurd (omega arith)
earlier_cons a rest i none more (suc g) (suc k) d lt less within = more g k d (omega arith) (omega arith) (omega arith)

beside_cons : (a : Row) (rest : List Row) (i j : ℕ) → ((k : ℕ) (d : Row) → i < k → k < j → overlap_at rest d i k ≡ false) → (k : ℕ) (d : Row) → suc i < k → k < suc j → overlap_at (a ∷ rest) d (suc i) k ≡ false
beside_cons a rest i j more zero d low lt = absurd (omega arith)
beside_cons a rest i j more (suc k) d low lt = more k d (omega arith) (omega arith)

in_tail : (a : Row) (n : ℕ) (rest : List Row) (two : TwoRows) → Apart a rest → FirstTwo (n + 1) rest two → FirstTwo n (a ∷ rest) two
in_tail a n rest two none f = record {
  i = suc f.i;
  j = suc f.j;
  first = omega (arith, f.first);
  second = omega (arith, f.second);
  ordered = omega (arith, f.ordered);
  within = omega (arith, f.within);
  overlap = f.overlap;
  earlier = earlier_cons a rest f.i none f.earlier;
  beside = beside_cons a rest f.i f.j f.beside;
}

two_by : (a : Row) (n : ℕ) (rest : List Row) (partner : Option ℕ) (later : Option TwoRows) (two : TwoRows) → ((s : ℕ) → partner ≡ Some s → Partner a (n + 1) rest s) → (partner ≡ None → Apart a rest) → ((two : TwoRows) → later ≡ Some two → FirstTwo (n + 1) rest two) → option_or (option_map (two_rows n) partner) later ≡ Some two → FirstTwo n (a ∷ rest) two
two_by a n rest None later two some none more e = in_tail a n rest two (none refl) (more two e)
two_by a n rest (Some s) later two some none more e =
    let same : two_rows n s ≡ two = cc in
    subst (λ (w : TwoRows). FirstTwo n (a ∷ rest) w) same (at_head a n rest s (some s refl))

first_two : (n : ℕ) (rows : List Row) (two : TwoRows) → first_overlap n rows ≡ Some two → FirstTwo n rows two
unfolding first_overlap
first_two n [] two e = absurd (cc)
first_two n (a ∷ rest) two e = two_by a n rest (position_from (overlaps a) (n + 1) rest) (first_overlap (n + 1) rest) two (partner_some a (n + 1) rest) (partner_none a (n + 1) rest) (first_two (n + 1) rest) e

pub first_overlap-some : (rows : List Row) (two : TwoRows) → first_overlap 1 rows ≡ Some two → IsFirstOverlap rows two
first_overlap-some rows two e =
    let f = first_two 1 rows two e in
    let i : two.first - 1 ≡ f.i = omega (arith, f.first) in
    let j : two.second - 1 ≡ f.j = omega (arith, f.second) in
    record {
      counted = omega (arith, f.first);
      ordered = omega (arith, f.first, f.second, f.ordered);
      within = omega (arith, f.second, f.within);
      overlap = λ d. rw (i, j) (f.overlap d);
      earlier = λ g k d lt less within. f.earlier g k d (omega arith) less within;
      beside = λ k d low lt. rw i (f.beside k d (omega arith) (omega arith));
    }

valid_cons : (a : Row) (rest : List Row) → Apart a rest → AreApart rest → AreApart (a ∷ rest)
valid_cons a rest none more zero zero d less within = absurd (omega arith)
valid_cons a rest none more zero (suc k) d less within = none k d (omega arith)
valid_cons a rest none more (suc g) zero d less within = absurd (omega arith)
valid_cons a rest none more (suc g) (suc k) d less within = more g k d (omega arith) (omega arith)

valid_by : (a : Row) (n : ℕ) (rest : List Row) (partner : Option ℕ) (later : Option TwoRows) → (partner ≡ None → Apart a rest) → (later ≡ None → AreApart rest) → option_or (option_map (two_rows n) partner) later ≡ None → AreApart (a ∷ rest)
valid_by a n rest None later none more e = valid_cons a rest (none refl) (more e)
valid_by a n rest (Some s) later none more e = absurd (cc)

first_two_none : (n : ℕ) (rows : List Row) → first_overlap n rows ≡ None → AreApart rows
unfolding first_overlap
first_two_none n [] e = λ i j d less within. absurd (omega arith)
first_two_none n (a ∷ rest) e = valid_by a n rest (position_from (overlaps a) (n + 1) rest) (first_overlap (n + 1) rest) (partner_none a (n + 1) rest) (first_two_none (n + 1) rest) e

pub first_overlap-none : (rows : List Row) → first_overlap 1 rows ≡ None → AreApart rows
first_overlap-none rows = first_two_none 1 rows
