-- The connections that are held stay a map.
use Rattle.std.proofs.Common.{◌≡◌, ◌⊎◌, ℕ, zero, suc, ◌+◌, ◌<◌, ◌≤◌, ◌==◌, ◌&&◌, ◌||◌, Bool, true, false, not, nat_le, List, [], ◌∷◌, ◌++◌, length, get_or, Option, Some, None, refl, sym, ap, ◌∙◌, subst, inl, inr, arith, if◌then◌else◌, Ok, Err}
use Rattle.std.proofs.lemmas.Bool.{eqb-true, eq-eqb, and_parts, and_from, or_cases, or_left, or_right}
use Rattle.book_base.specs.declared.address.Socket.{Socket}
use Rattle.book_segments.specs.Sockets.{same_address, same_socket}
use Rattle.book_segments.specs.Segments.{Segment, Reading, Read, Bad, reading, has, SYN, ACK}
use Rattle.book_keys.specs.Rows.{Table}
use Rattle.book_keys.proofs.OverlapLaws.{same_address-true}
use Rattle.book_segments.proofs.SocketLaws.{same_address-refl}
use Rattle.book_endpoint.specs.Verdicts.{Judgement}
use Rattle.book_cmd_check.specs.Captures.{Stored, Connection, Heard, joins, with_connection, fixed, same_isns, most_connections, connection_between, hear_syn_ack, hear_later, hear_judged, judge_stored, hear_at, hear_read, hear, sayings_from}
use Rattle.book_segments.specs.Segments.{pair_reached}
use Rattle.book_cmd_check.specs.Connections.{connections_after, IsMap}
use Rattle.book_cmd_check.specs.declared.given.GivenIsns.{GivenIsns}
use Rattle.book_cmd_check.specs.Handshakes.{and_given, given_connection, given_after, held_between, with_begun}

-- ---- which sockets a connection joins

socket_is : (a b : Socket) → same_socket a b ≡ true → a ≡ b
socket_is a b e =
    let both = and_parts (same_address a.address b.address) (a.port == b.port) e in
    let addresses = same_address-true a.address b.address both.0 in
    let ports = eqb-true a.port b.port both.1 in
    ap (λ x. record { address = x; port = a.port }) addresses ∙ ap (λ (n : ℕ). record { address = b.address; port = n }) ports

socket_self : (a : Socket) → same_socket a a ≡ true
socket_self a = and_from (same_address a.address a.address) (a.port == a.port) (same_address-refl a.address) (eq-eqb a.port a.port refl)

abbrev Between : Socket → Socket → Connection → Type 0
Between a b c = ((c.one.socket ≡ a) × (c.two.socket ≡ b)) ⊎ ((c.one.socket ≡ b) × (c.two.socket ≡ a))

between : (a b : Socket) (c : Connection) → joins a b c ≡ true → Between a b c
between a b c e = elim (or_cases (same_socket c.one.socket a && same_socket c.two.socket b) (same_socket c.one.socket b && same_socket c.two.socket a) e) [
  | inl here ↦ let both = and_parts (same_socket c.one.socket a) (same_socket c.two.socket b) here in inl (socket_is c.one.socket a both.0, socket_is c.two.socket b both.1)
  | inr there ↦ let both = and_parts (same_socket c.one.socket b) (same_socket c.two.socket a) there in inr (socket_is c.one.socket b both.0, socket_is c.two.socket a both.1)
]

joins_in_order : (a b : Socket) (c : Connection) → c.one.socket ≡ a → c.two.socket ≡ b → joins a b c ≡ true
joins_in_order a b c one two = rw (← one, ← two)
    (or_left (same_socket c.one.socket c.one.socket && same_socket c.two.socket c.two.socket) (same_socket c.one.socket c.two.socket && same_socket c.two.socket c.one.socket)
    (and_from (same_socket c.one.socket c.one.socket) (same_socket c.two.socket c.two.socket) (socket_self c.one.socket) (socket_self c.two.socket)))

joins_turned : (a b : Socket) (c : Connection) → c.one.socket ≡ b → c.two.socket ≡ a → joins a b c ≡ true
joins_turned a b c one two = rw (← one, ← two)
    (or_right (same_socket c.one.socket c.two.socket && same_socket c.two.socket c.one.socket) (same_socket c.one.socket c.one.socket && same_socket c.two.socket c.two.socket)
    (and_from (same_socket c.one.socket c.one.socket) (same_socket c.two.socket c.two.socket) (socket_self c.one.socket) (socket_self c.two.socket)))

joined : (a b : Socket) (c : Connection) → Between a b c → joins a b c ≡ true
joined a b c (inl e) = joins_in_order a b c e.0 e.1
joined a b c (inr e) = joins_turned a b c e.0 e.1

-- two connections between one pair of sockets are between the same pairs
replaced : (a b : Socket) (c k : Connection) → joins c.one.socket c.two.socket k ≡ true → joins a b c ≡ true → joins a b k ≡ true
replaced a b c k same e = joined a b k (elim (between a b c e) [
  | inl here ↦ elim (between c.one.socket c.two.socket k same) [
    | inl first ↦ inl (first.0 ∙ here.0, first.1 ∙ here.1)
    | inr second ↦ inr (second.0 ∙ here.1, second.1 ∙ here.0)
  ]
  | inr there ↦ elim (between c.one.socket c.two.socket k same) [
    | inl first ↦ inr (first.0 ∙ there.0, first.1 ∙ there.1)
    | inr second ↦ inl (second.0 ∙ there.1, second.1 ∙ there.0)
  ]
])

alike : (a b : Socket) (c k : Connection) → joins a b k ≡ true → joins a b c ≡ true → joins c.one.socket c.two.socket k ≡ true
alike a b c k one two = joined c.one.socket c.two.socket k (elim (between a b k one) [
  | inl here ↦ elim (between a b c two) [
    | inl first ↦ inl (here.0 ∙ sym first.0, here.1 ∙ sym first.1)
    | inr second ↦ inr (here.0 ∙ sym second.1, here.1 ∙ sym second.0)
  ]
  | inr there ↦ elim (between a b c two) [
    | inl first ↦ inr (there.0 ∙ sym first.1, there.1 ∙ sym first.0)
    | inr second ↦ inl (there.0 ∙ sym second.0, there.1 ∙ sym second.1)
  ]
])

-- ---- a map with one connection put in

abbrev Away : Connection → List Connection → Type 0
Away c ks = (a b : Socket) (j : ℕ) (d : Connection) → j < length ks → joins a b c ≡ true → joins a b (get_or ks j d) ≡ true → ⊥

record IsMapOf (ks : List Connection) : Type 0 where
  is : IsMap ks

map_nil : IsMapOf []
map_nil = record { is = λ a b j k d less. absurd (omega arith) }

cons_at : (c : Connection) (ks : List Connection) → Away c ks → IsMap ks → (a b : Socket) (j k : ℕ) (d : Connection) → j < length (c ∷ ks) → k < length (c ∷ ks)
    → joins a b (get_or (c ∷ ks) j d) ≡ true → joins a b (get_or (c ∷ ks) k d) ≡ true → j ≡ k
cons_at c ks away is a b zero zero d lj lk ej ek = refl
cons_at c ks away is a b zero (suc k) d lj lk ej ek = absurd (away a b k d (omega arith) ej ek)
cons_at c ks away is a b (suc j) zero d lj lk ej ek = absurd (away a b j d (omega arith) ek ej)
cons_at c ks away is a b (suc j) (suc k) d lj lk ej ek = ap (λ (n : ℕ). suc n) (is a b j k d (omega arith) (omega arith) ej ek)

map_cons : (c : Connection) (ks : List Connection) → Away c ks → IsMapOf ks → IsMapOf (c ∷ ks)
map_cons c ks away m = record { is = cons_at c ks away m.is }

head_away : (k : Connection) (ks : List Connection) → IsMapOf (k ∷ ks) → Away k ks
head_away k ks m = λ a b j d less one two. let same = m.is a b 0 (suc j) d (omega arith) (omega arith) one two in omega arith

tail_map : (k : Connection) (ks : List Connection) → IsMapOf (k ∷ ks) → IsMapOf ks
tail_map k ks m = record { is = λ a b i j d li lj ei ej. let same = m.is a b (suc i) (suc j) d (omega arith) (omega arith) ei ej in omega arith }

away_nil : (c : Connection) → Away c []
away_nil c = λ a b j d less. absurd (omega arith)

away_cons : (c k : Connection) (ks : List Connection) → ((a b : Socket) → joins a b c ≡ true → joins a b k ≡ true → ⊥) → Away c ks → Away c (k ∷ ks)
away_cons c k ks apart away a b zero d less one two = apart a b one two
away_cons c k ks apart away a b (suc j) d less one two = away a b j d (omega arith) one two

-- what joins none of the sockets of a list nor of c joins none where c is put in
put_by : (same : Bool) (h c k : Connection) (ks : List Connection) → ((a b : Socket) → joins a b h ≡ true → joins a b c ≡ true → ⊥) → Away h (k ∷ ks) → Away h (with_connection c ks)
    → Away h (if same then c ∷ ks else k ∷ with_connection c ks)
put_by true h c k ks apart away others = away_cons h c ks apart (λ a b j d less. away a b (suc j) d (omega arith))
put_by false h c k ks apart away others = away_cons h k (with_connection c ks) (λ a b. away a b 0 h (omega arith)) others

put_away : (h c : Connection) (ks : List Connection) → ((a b : Socket) → joins a b h ≡ true → joins a b c ≡ true → ⊥) → Away h ks → Away h (with_connection c ks)
put_away h c [] apart away = away_cons h c [] apart (away_nil h)
put_away h c (k ∷ ks) apart away =
    put_by (joins c.one.socket c.two.socket k) h c k ks apart away (put_away h c ks apart (λ a b j d less. away a b (suc j) d (omega arith)))

with_by : (same : Bool) (c k : Connection) (ks : List Connection) → joins c.one.socket c.two.socket k ≡ same → IsMapOf (k ∷ ks) → IsMapOf (with_connection c ks)
    → IsMapOf (if same then c ∷ ks else k ∷ with_connection c ks)
with_by true c k ks e m others =
    map_cons c ks (λ a b j d less one two. head_away k ks m a b j d less (replaced a b c k e one) two) (tail_map k ks m)
with_by false c k ks e m others =
    map_cons k (with_connection c ks) (put_away k c ks (λ a b one two. let same = alike a b c k one two in absurd (cc)) (head_away k ks m)) others

with_map : (c : Connection) (ks : List Connection) → IsMapOf ks → IsMapOf (with_connection c ks)
with_map c [] m = map_cons c [] (away_nil c) map_nil
with_map c (k ∷ ks) m = with_by (joins c.one.socket c.two.socket k) c k ks refl m (with_map c ks (tail_map k ks m))

-- ---- each datagram keeps it

fixed_map : (same : Bool) (held : List Connection) (d : Segment) → IsMapOf held → IsMapOf (if same then held else with_connection (fixed d) held)
fixed_map true held d m = m
fixed_map false held d m = with_map (fixed d) held m

full_map : (full : Bool) (held : List Connection) (one two : Heard) → IsMapOf one.connections → IsMapOf two.connections → IsMapOf (if full then one else two).connections
full_map true held one two a b = a
full_map false held one two a b = b

syn_ack_map : (held : List Connection) (d : Segment) (j : Judgement) (known : Option Connection) → IsMapOf held → IsMapOf (hear_syn_ack held d j known).connections
syn_ack_map held d j (Some c) m = fixed_map (same_isns c (fixed d)) held d m
syn_ack_map held d j None m = full_map (nat_le most_connections (length held)) held _ _ m (with_map (fixed d) held m)

later_map : (held : List Connection) (d : Segment) (n : ℕ) (j : Judgement) (known : Option Connection) → IsMapOf held → IsMapOf (hear_later held d n j known).connections
later_map held d n j None m = m
later_map held d n j (Some c) m = with_map _ held m

judged_map : (held : List Connection) (d : Segment) (known : Option Connection) (j : Judgement) → IsMapOf held → IsMapOf (hear_judged held d known j).connections
judged_map held d known (Err why) m = m
judged_map held d known (Ok p) m =
    full_map (not (has SYN d)) held (hear_later held d p.number (Ok p) known) _ (later_map held d p.number (Ok p) known m)
    (full_map (has ACK d) held (hear_syn_ack held d (Ok p) known) _ (syn_ack_map held d (Ok p) known m) m)

at_map : (t : Option Table) (held : List Connection) (now : ℕ) (d : Segment) → IsMapOf held → IsMapOf (hear_at t held now d).connections
at_map None held now d m = m
at_map (Some t) held now d m =
    full_map (same_socket d.source d.destination) held _ _ m
    (judged_map held d (connection_between d held) (judge_stored t.rows (pair_reached d) now d (connection_between d held)) m)

read_map : (tables : List Table) (held : List Connection) (now : ℕ) (r : Reading) → IsMapOf held → IsMapOf (hear_read tables held now r).connections
read_map tables held now (Bad fault) m = m
read_map tables held now (Read d) m = at_map _ held now d m

hear_map : (tables : List Table) (held : List Connection) (time : ℕ) (bytes : List ℕ) → IsMapOf held → IsMapOf (hear tables held time bytes).connections
unfolding hear
hear_map tables held time bytes m = read_map tables held time (reading bytes) m

after_map : (tables : List Table) (held : List Connection) (stored : List Stored) → IsMapOf held → IsMapOf (connections_after tables held stored)
after_map tables held [] m = m
after_map tables held (s ∷ rest) m = after_map tables (hear tables held s.time s.bytes).connections rest (hear_map tables held s.time s.bytes m)

pub stays_map : (tables : List Table) (stored : List Stored) → IsMap (connections_after tables [] stored)
stays_map tables stored = (after_map tables [] stored map_nil).is

kept_map : (kept : Bool) (one two : List Connection) → IsMapOf one → IsMapOf two → IsMapOf (if kept then one else two)
kept_map true one two a b = a
kept_map false one two a b = b

begun_map : (c : Connection) (known : Option Connection) (held : List Connection) → IsMapOf held → IsMapOf (with_begun c known held)
begun_map c (Some k) held m = kept_map (same_isns k c) held (with_connection c held) m (with_map c held m)
begun_map c None held m = kept_map (nat_le most_connections (length held)) held (with_connection c held) m (with_map c held m)

given_map : (held : List Connection) (gs : List GivenIsns) → IsMapOf held → IsMapOf (given_after held gs)
given_map held [] m = m
given_map held (g ∷ gs) m = given_map (and_given g held) gs
    (kept_map (same_socket g.one g.other) held (with_begun (given_connection g) (held_between g held) held) m (begun_map (given_connection g) (held_between g held) held m))

pub stays_map_given : (tables : List Table) (given : List GivenIsns) (stored : List Stored) → IsMap (connections_after tables (given_after [] given) stored)
stays_map_given tables given stored = (after_map tables (given_after [] given) stored (given_map [] given map_nil)).is

judged_from : (tables : List Table) (held : List Connection) (before after : List Stored)
    → sayings_from tables held (before ++ after) ≡ sayings_from tables held before ++ sayings_from tables (connections_after tables held before) after
judged_from tables held [] after = refl
judged_from tables held (s ∷ rest) after =
    let h : Heard = hear tables held s.time s.bytes in ap (λ ws. h.saying ∷ ws) (judged_from tables h.connections rest after)

pub judged_on : (tables : List Table) (before after : List Stored)
    → sayings_from tables [] (before ++ after) ≡ sayings_from tables [] before ++ sayings_from tables (connections_after tables [] before) after
judged_on tables before after = judged_from tables [] before after
