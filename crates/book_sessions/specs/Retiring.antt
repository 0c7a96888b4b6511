-- May a row of a key file go? By the segments of a capture: who uses it still, and whether all who
-- may use it were seen to do without (RFC 5925, sections 6.1 and 7.1, and own). Its top is
-- `may_go`.
use Rattle.std.specs.Prelude.{ℕ, ◌+◌, ◌-◌, ◌==◌, ◌&&◌, ◌||◌, max, nat_lt, nat_le, Bool, not}
use Rattle.std.specs.Prelude.{true, false, is_some, List, [], ◌∷◌, filter, Option, Some, None}
use Rattle.std.specs.Prelude.{if◌then◌else◌}
use Rattle.std.specs.List.{find, list_all, list_any}
use Rattle.book_base.specs.declared.address.Address.{Address}
use Rattle.book_base.specs.declared.address.Pair.{Pair}
use Rattle.book_base.specs.declared.address.Socket.{Socket}
use Rattle.book_segments.specs.Sockets.{same_address, same_socket}
use Rattle.book_endpoint.specs.declared.refusal.Refusal.TheVariants.{NoContext}
use Rattle.book_keys.specs.declared.lifetime.Lifetime.{Lifetime}
use Rattle.book_keys.specs.Lifetimes.{is_covered}
use Rattle.book_keys.specs.Rows.{Row, Table, has_address, matches, names, sends_for}
use Rattle.book_keys.specs.Plans.{first_failing, mirrored, same_key}
use Rattle.book_sessions.specs.declared.outcome.SegmentOutcome.{SegmentOutcome}
use Rattle.book_sessions.specs.declared.outcome.SegmentOutcome.TheVariants as outcome
use Rattle.book_sessions.specs.declared.retiring.Ending.{Ending}
use Rattle.book_sessions.specs.declared.retiring.MayGo.{MayGo}
use Rattle.book_sessions.specs.declared.retiring.MayGo.TheVariants as go
use Rattle.book_sessions.specs.declared.retiring.Wanting.{Wanting}
use Rattle.book_sessions.specs.declared.uses.FlowIsns.{FlowIsns}
use Rattle.book_sessions.specs.declared.uses.KeyUse.{KeyUse}
use Rattle.book_sessions.specs.OutcomeTexts.{is_doubtful, is_verified}
use Rattle.book_sessions.specs.Sessions.{SessionTable, knows_both}

-- ---- what is of a row

-- there is an id, and it is this one (own)
abbrev pub is_id : Option ℕ → ℕ → Bool
is_id None id = false
is_id (Some one) id = one == id

-- what goes between the node's socket and the other one (own)
abbrev pub between : (own other : Socket) → Pair
between own other = record { local = own; remote = other }

-- the row is for what goes between the two sockets, the first of which is the node's (RFC 7210,
-- section 2)
abbrev pub is_for : Table → Row → Pair → Bool
is_for t r pair = same_address pair.local.address t.address && matches r pair

-- the node sent these, and the row is for them (RFC 7210, section 2)
abbrev pub sent_by : Table → Row → KeyUse → Bool
sent_by t r u = is_for t r (between u.source u.destination)

-- they were sent to the node, and the row is for them (RFC 7210, section 2)
abbrev pub sent_to : Table → Row → KeyUse → Bool
sent_to t r u = is_for t r (between u.destination u.source)

-- the row is for these, in either direction (own)
abbrev pub is_at_row : Table → Row → KeyUse → Bool
is_at_row t r u = sent_by t r u || sent_to t r u

-- the lifetime ended before the first of these was seen (RFC 7210, section 2)
abbrev pub is_outlived : Lifetime → KeyUse → Bool
is_outlived l u = nat_lt l.last u.first

-- of the rows for this pair one sends with this id, and isn't over at the last of these (own)
abbrev pub may_be_sent : Table → Pair → (found : Option ℕ) → KeyUse → Bool
may_be_sent t pair found u = list_any (λ q. is_for t q pair
    && (is_id found q.send_id && nat_le u.last q.sending.last)) t.rows

-- of the rows for this pair one takes this id, and isn't over at the last of these (own)
abbrev pub may_be_taken : Table → Pair → (found : Option ℕ) → KeyUse → Bool
may_be_taken t pair found u = list_any (λ q. is_for t q pair
    && (is_id found q.recv_id && nat_le u.last q.accepting.last)) t.rows

-- the row is over for these, and another one may be meant by the id that it sends with (own)
abbrev pub is_sent_anew : Table → Row → Pair → (found : Option ℕ) → KeyUse → Bool
is_sent_anew t r pair found u = is_outlived r.sending u && may_be_sent t pair found u

-- the row is over for these, and another one may be meant by the id that it takes (own)
abbrev pub is_taken_anew : Table → Row → Pair → (found : Option ℕ) → KeyUse → Bool
is_taken_anew t r pair found u = is_outlived r.accepting u && may_be_taken t pair found u

-- these passed under the row of this number; of those that didn't pass it may be the row, unless
-- another one may (RFC 5925, section 7.5)
abbrev pub came_under : Table → (number : ℕ) → Row → KeyUse → Option ℕ → Bool
came_under t n r u None = not (is_taken_anew t r (between u.destination u.source) u.key_id u)
came_under t n r u (Some row) = row == n

-- these carry the KeyID of row number n: its node sent them with it, or took them under it (RFC
-- 5925, section 6.1)
abbrev pub carries_row : Table → (n : ℕ) → Row → KeyUse → Bool
carries_row t n r u =
    (sent_by t r u && (is_id u.key_id r.send_id
    && not (is_sent_anew t r (between u.source u.destination) u.key_id u)))
    || (sent_to t r u && (is_id u.key_id r.recv_id && came_under t n r u u.row))

-- these ask for the row: its node asks to be sent with it, or is asked to send with it (RFC 5925,
-- section 7.1)
abbrev pub asks_for_row : Table → Row → KeyUse → Bool
asks_for_row t r u =
    (sent_by t r u && (is_id u.asked r.recv_id
    && not (is_taken_anew t r (between u.source u.destination) u.asked u)))
    || (sent_to t r u && (is_id u.asked r.send_id
    && not (is_sent_anew t r (between u.destination u.source) u.asked u)))

-- these carry the row's KeyID, or ask for the row (own)
abbrev pub wants_row : Table → (n : ℕ) → Row → KeyUse → Bool
wants_row t n r u = carries_row t n r u || asks_for_row t r u

-- ---- what is live

-- what is said of these doesn't tell that they are wrong: they passed, or what would judge them
-- isn't known (own)
abbrev pub may_be_right : SegmentOutcome → Bool
may_be_right (outcome.Refused NoContext) = true
may_be_right (outcome.Refused why) = false
may_be_right _ = true

-- these may be segments under a key (RFC 5925, section 2.2)
abbrev pub is_counted : KeyUse → Bool
is_counted u = is_some u.key_id && may_be_right u.outcome

-- a peer's number is this one, where both are known (RFC 5925, section 5.2)
abbrev pub fits_peer : (asked found : Option ℕ) → Bool
fits_peer None found = true
fits_peer (Some isn) found = is_id found isn

-- the second are the numbers of the first's connection, as the same side sees it (RFC 5925, section
-- 5.2)
abbrev pub is_this_side : (one other : FlowIsns) → Bool
is_this_side a b = (a.own == b.own) && fits_peer a.peer b.peer

-- the same, as the other side sees it (RFC 5925, section 5.2)
abbrev pub is_other_side : (one other : FlowIsns) → Bool
is_other_side a b = is_id b.peer a.own && fits_peer a.peer (Some b.own)

-- what holds of the numbers of two uses that passed (own)
abbrev pub if_both : (FlowIsns → FlowIsns → Bool) → (one other : Option FlowIsns) → Bool
if_both holds (Some a) (Some b) = holds a b
if_both holds a b = false

-- the second are of the connection of the first, and go its way (own)
abbrev pub is_onward : (one other : KeyUse) → Bool
is_onward u v = (same_socket u.source v.source && same_socket u.destination v.destination)
    && if_both is_this_side u.isns v.isns

-- the second are of the connection of the first, and go the other way (own)
abbrev pub is_return : (one other : KeyUse) → Bool
is_return u v = (same_socket u.source v.destination && same_socket u.destination v.source)
    && if_both is_other_side u.isns v.isns

-- a number, with another that counts in one case (own)
abbrev pub with_mark : Bool → (mark before : ℕ) → ℕ
with_mark counts mark before = if counts then max mark before else before

-- what the second show of the ending of the connection of the first (own)
abbrev pub and_ending : (one other : KeyUse) → Ending → Ending
and_ending u v e = let onward = is_onward u v in let back = is_return u v in record {
  reset = ((onward || back) && nat_lt 0 v.reset) || e.reset;
  onward = with_mark onward v.finished e.onward;
  back = with_mark back v.finished e.back;
  moved = with_mark (onward || back) v.moved e.moved;
}

-- how the connection of a use ends, by these (own)
abbrev pub ending_by : KeyUse → List KeyUse → Ending
ending_by u [] = record { reset = false; onward = 0; back = 0; moved = 0 }
ending_by u (v ∷ vs) = and_ending u v (ending_by u vs)

-- both sides are finished, and nothing moved on behind that (RFC 9293, section 3.6)
abbrev pub both_finished : Ending → Bool
both_finished e = (nat_lt 0 e.onward && nat_lt 0 e.back) && nat_le e.moved (max e.onward e.back)

-- the connection ended: by a RST at the number expected, or by a FIN of either side (RFC 9293,
-- sections 3.5.3 and 3.6)
abbrev pub is_ended : Ending → Bool
is_ended e = e.reset || both_finished e

-- these may be segments under a key of a connection that goes on (own)
abbrev pub is_live : List KeyUse → KeyUse → Bool
is_live uses u = is_counted u && not (is_ended (ending_by u uses))

-- ---- who does without a row

-- these go from one socket to the other (own)
abbrev pub goes_from : (source destination : Socket) → KeyUse → Bool
goes_from a b u = same_socket u.source a && same_socket u.destination b

-- what these show of their way (own)
abbrev pub and_wanting : Bool → KeyUse → Wanting → Wanting
and_wanting wants u w = record {
  wanted = with_mark (wants && is_counted u) u.packet w.wanted;
  moved = with_mark (not wants && is_verified u.outcome) u.moved w.moved;
}

-- what goes from one socket to the other shows of a row, the test being whether it wants the row
-- (own)
abbrev pub wanting_by : (KeyUse → Bool) → (source destination : Socket) → List KeyUse → Wanting
wanting_by wants a b [] = record { wanted = 0; moved = 0 }
wanting_by wants a b (u ∷ us) = if goes_from a b u
    then and_wanting (wants u) u (wanting_by wants a b us) else wanting_by wants a b us

-- what goes from one socket to the other does without a row: behind all that wants it a verified
-- segment moved on that doesn't (RFC 5925, section 6.1, and own)
abbrev pub does_without : (KeyUse → Bool) → (source destination : Socket) → List KeyUse → Bool
does_without wants a b uses = let w = wanting_by wants a b uses in nat_lt w.wanted w.moved

-- what goes the way of these does without the row (own)
abbrev pub goes_without : (KeyUse → Bool) → List KeyUse → KeyUse → Bool
goes_without wants uses u = does_without wants u.source u.destination uses

-- both sides of these do without the row (own)
abbrev pub both_without : (KeyUse → Bool) → List KeyUse → KeyUse → Bool
both_without wants uses u = does_without wants u.source u.destination uses
    && does_without wants u.destination u.source uses

-- these passed between the sockets of the first, in another connection (RFC 9293, section 3.4.1)
abbrev pub is_elsewhere : (one other : KeyUse) → Bool
is_elsewhere u v = (goes_from u.source u.destination v || goes_from u.destination u.source v)
    && (knows_both v.isns && not (is_onward u v || is_return u v))

-- behind the last that moved on of these, another connection was seen between their sockets (own)
abbrev pub is_followed : List KeyUse → KeyUse → Bool
is_followed uses u = list_any (λ v. is_elsewhere u v && nat_lt u.moved v.packet) uses

-- these are between the node and this peer (own)
abbrev pub is_of_peer : Table → Row → Option Address → KeyUse → Bool
is_of_peer t r p u = (sent_by t r u && names p u.destination.address)
    || (sent_to t r u && names p u.source.address)

-- these moved on between the node and this peer, and no other connection followed (own)
abbrev pub shows_peer : List KeyUse → Table → Row → Option Address → KeyUse → Bool
shows_peer uses t r p u = (nat_lt 0 u.moved && not (is_followed uses u)) && is_of_peer t r p u

-- each peer that the row names was seen (own)
abbrev pub sees_peers : (uses live : List KeyUse) → Table → Row → Bool
sees_peers uses live t r = list_all (λ p. list_any (shows_peer uses t r p) live) r.peers

-- ---- what is left

-- the send lifetimes of the rows that stay, for a pair (RFC 7210, section 2)
abbrev pub lifetimes_left : (gone : Row → Bool) → List Row → Pair → List Lifetime
lifetimes_left gone [] pair = []
lifetimes_left gone (r ∷ rs) pair = if sends_for pair r && not (gone r)
    then r.sending ∷ lifetimes_left gone rs pair else lifetimes_left gone rs pair

-- these lifetimes contain each time of another from a time on (RFC 7210, section 2)
abbrev pub contain_rest : List Lifetime → (from : ℕ) → Lifetime → Bool
contain_rest ls from l = let low = max l.first from in
    not (is_some (first_failing (is_covered ls) low (l.last + 1 - low)))

-- of these rows, those that stay send whenever one that goes may send from a time on (own)
abbrev pub leaves_rows : (gone : Row → Bool) → List Row → Pair → (from : ℕ) → Bool
leaves_rows gone rows pair from = list_all (λ r. not (sends_for pair r && gone r)
    || contain_rest (lifetimes_left gone rows pair) from r.sending) rows

-- the rows have the same ids and the same send lifetime (own)
abbrev pub is_same_row : (one other : Row) → Bool
is_same_row r q = ((q.send_id == r.send_id) && (q.recv_id == r.recv_id))
    && ((q.sending.first == r.sending.first) && (q.sending.last == r.sending.last))

-- the peer's row sends what this one takes (RFC 5925, section 3.1)
abbrev pub is_partner : (one other : Row) → Bool
is_partner r q = (q.send_id == r.recv_id) && same_key r q

-- the peer's table sends without the partners of the row (own)
abbrev pub leaves_peer : Row → Option Table → Pair → (from : ℕ) → Bool
leaves_peer r None pair from = true
leaves_peer r (Some t) pair from = leaves_rows (is_partner r) t.rows pair from

-- without the row its node sends over these two sockets, and its peer without the row's partners,
-- whenever they may send now, from a time on (own)
abbrev pub leaves_both : List Table → Table → Row → Pair → (from : ℕ) → Bool
leaves_both tables t r pair from = leaves_rows (is_same_row r) t.rows pair from
    && leaves_peer r (find (has_address pair.remote.address) tables) (mirrored pair) from

-- the same for what these go between (own)
abbrev pub leaves_use : List Table → Table → Row → (from : ℕ) → KeyUse → Bool
leaves_use tables t r from u =
    (not (sent_by t r u) || leaves_both tables t r (between u.source u.destination) from)
    && (not (sent_to t r u) || leaves_both tables t r (between u.destination u.source) from)

-- ---- may it go

-- what a capture shows: its segments, those of connections that go on, and whether a packet was
-- passed over that may be a segment (own)
pub record Evidence : Type 0 where
  pub uses : List KeyUse
  pub live : List KeyUse
  pub doubt : Bool
  pub latest : ℕ  -- the latest time at which a segment was seen

-- the latest of a time and of those at which segments were seen (own)
abbrev pub latest_seen : ℕ → List KeyUse → ℕ
latest_seen time [] = time
latest_seen time (u ∷ us) = latest_seen (max time u.last) us

-- what a table of sessions shows (own)
abbrev pub evidence_of : SessionTable → Evidence
evidence_of t = record {
  uses = t.uses;
  live = filter (is_live t.uses) t.uses;
  doubt = list_any (λ c. is_doubtful c.why) t.passed;
  latest = latest_seen 0 t.uses;
}

-- both sides of each connection at the row that goes on do without it (own)
abbrev pub all_without : Evidence → Table → (n : ℕ) → Row → Bool
all_without e t n r = list_all
    (λ u. not (is_at_row t r u) || both_without (wants_row t n r) e.uses u) e.live

-- a verified segment of a connection that goes on wants the row, and what goes its way doesn't do
-- without it (own)
abbrev pub is_in_use : Evidence → Table → (n : ℕ) → Row → Bool
is_in_use e t n r = list_any
    (λ u. (is_verified u.outcome && wants_row t n r u)
    && not (goes_without (wants_row t n r) e.uses u)) e.live

-- nothing is left without a row to send with where the row goes (own)
abbrev pub all_left : Evidence → List Table → Table → Row → Bool
all_left e tables t r = list_all (leaves_use tables t r e.latest) e.live

-- the row may go: each peer that it names was seen in a connection that goes on, and that no other
-- followed; both sides of all that go on do without it; the rows that are left send in its place;
-- and no packet was passed over that may be a segment (own)
abbrev pub is_dispensable : Evidence → List Table → Table → (n : ℕ) → Row → Bool
is_dispensable e tables t n r =
    (sees_peers e.uses e.live t r && all_without e t n r) && (all_left e tables t r && not e.doubt)

-- whether row number n of a node may go (own)
unfoldable pub may_go : Evidence → List Table → Table → (n : ℕ) → Row → MayGo
may_go e tables t n r =
    if is_dispensable e tables t n r then go.Yes
    else if is_in_use e t n r then go.No
    else go.Unknown
