-- A guard behind another one hands on what that one does.
use Rattle.std.proofs.Common.{◌≡◌, ℕ, ◌+◌, ◌&&◌, ◌||◌, not, max, Bool, true, false, List, Option, Some, None, Result, Ok, Err, refl, sym, ap, subst, ◌∙◌, arith, if◌then◌else◌}
use Rattle.book_base.specs.declared.address.Pair.{Pair}
use Rattle.book_base.specs.Results.{◌>>=◌}
use Rattle.book_segments.specs.Segments.{Segment, Reading, Bad as Unread, Read, reading, has, good, SYN, ACK, RST, segment_length}
use Rattle.book_keys.specs.Rows.{Row}
use Rattle.book_endpoint.specs.Arrivals.{from_peer}
use Rattle.book_endpoint.specs.declared.refusal.Refusal.TheVariants.{NoContext as Nothing}
use Rattle.book_endpoint.specs.Verdicts.{Finding, Judgement, judge, segment_number}
use Rattle.book_shim.specs.declared.kept.Isns.{Isns}
use Rattle.book_shim.specs.declared.kept.Kept.{Kept}
use Rattle.book_shim.specs.declared.refusal.Untaken.{Untaken}
use Rattle.book_shim.specs.declared.refusal.Untaken.TheVariants.{Foreign, Unkeyed, Checksum}
use Rattle.book_shim.specs.Keeping.{Setting, demand, is_keyed, is_the_number, are_isns, answered_isn, connection_begun}
use Rattle.book_shim.specs.Arriving.{Opened, as_taken, judged_arrival, is_awaited, known_in, known_for, joined, admitted, is_of_connection, past_heard, may_be_replayed, asked_id, row_asked, handed_on, take_in, take_read, inbound}
use Rattle.law_shim.proofs.Behind.{Close, same_number, Bounds, behind, of_behind, itself}
use Rattle.law_shim.specs.Restoring.{with_numbers, IsBehind, IsClose, IsOpenedAlike, AreTakenAlike}

-- ---- the verdict

judged_same : (rows : List Row) (pair : Pair) (own : ℕ) (peer : Option ℕ) (x s now : ℕ) (d : Segment) → segment_number d (Some s) ≡ segment_number d (Some x)
    → judge rows pair (record { own_isn = own; peer_isn = peer; expected = Some s }) now d ≡ judge rows pair (record { own_isn = own; peer_isn = peer; expected = Some x }) now d
unfolding judge
judged_same rows pair own peer x s now d e = rw e refl

module _ (g : Kept) (s h : ℕ) (b : Bounds g s h) where
  judged_behind : (here : Setting) (pair : Pair) (d : Segment) → Close g.heard d → judge here.rows pair (known_for (with_numbers g s h) d) here.now d ≡ judge here.rows pair (known_for g d) here.now d
  judged_behind here pair d close = by_test (has SYN d) g.isns
    where
      by_test : (t : Bool) (i : Option Isns) → judge here.rows pair (if t then record { own_isn = answered_isn d; peer_isn = None; expected = None } else known_in i h) here.now d
          ≡ judge here.rows pair (if t then record { own_isn = answered_isn d; peer_isn = None; expected = None } else known_in i g.heard) here.now d
      by_test true i = refl
      by_test false None = refl
      by_test false (Some c) = judged_same here.rows pair c.own (Some c.peer) g.heard h here.now d (same_number d g.heard h b.heard b.heard_near close)

  arrival_behind : (here : Setting) (pair : Pair) (d : Segment) → Close g.heard d → judged_arrival here pair (with_numbers g s h) d ≡ judged_arrival here pair g d
  unfolding judged_arrival
  arrival_behind here pair d close =
      ap (λ (j : Judgement). if has SYN d && has ACK d && not (is_awaited g d) then Err Nothing else j) (judged_behind here pair d close)

  -- ---- what is kept

  late_behind : (t : Bool) (own peer : ℕ) (k r : Kept) → IsBehind k r → IsBehind (if t then record g { late = Some (record { own = own; peer = peer }) } else k) (if t then record (with_numbers g s h) { late = Some (record { own = own; peer = peer }) } else r)
  late_behind true own peer k r more = behind (record g { late = Some (record { own = own; peer = peer }) }) s h (record { sent = b.sent; sent_near = b.sent_near; heard = b.heard; heard_near = b.heard_near })
  late_behind false own peer k r more = more

  anew_behind : (t : Bool) (own peer : ℕ) → IsBehind (if t then g else record g { isns = Some (record { own = own; peer = peer }); heard = peer + 1 })
      (if t then with_numbers g s h else record (with_numbers g s h) { isns = Some (record { own = own; peer = peer }); heard = peer + 1 })
  anew_behind true own peer = behind g s h b
  anew_behind false own peer = behind (record g { isns = Some (record { own = own; peer = peer }); heard = peer + 1 }) s (peer + 1)
      (record { sent = b.sent; sent_near = b.sent_near; heard = omega arith; heard_near = omega arith })

  begun_behind : (t : Bool) (own peer : ℕ) (k r : Kept) → IsBehind k r → IsBehind (if t then connection_begun g own peer else k) (if t then connection_begun (with_numbers g s h) own peer else r)
  begun_behind true own peer k r more = itself (connection_begun g own peer)
  begun_behind false own peer k r more = more

  joined_behind : (own peer : ℕ) → IsBehind (joined g own peer) (joined (with_numbers g s h) own peer)
  joined_behind own peer =
      begun_behind (is_the_number g.opening own) own peer _ _ (late_behind (is_the_number g.given_up own) own peer _ _ (anew_behind (are_isns g.isns own peer || g.settled) own peer))

  admitted_behind : (d : Segment) → IsBehind (admitted g d) (admitted (with_numbers g s h) d)
  admitted_behind d = by_test (has SYN d && has ACK d)
    where
      by_test : (t : Bool) → IsBehind (if t then joined g (answered_isn d) d.sequence else g) (if t then joined (with_numbers g s h) (answered_isn d) d.sequence else with_numbers g s h)
      by_test true = joined_behind (answered_isn d) d.sequence
      by_test false = behind g s h b

  past_behind : (d : Segment) (n : ℕ) (c : Option ℕ) → IsBehind (record (past_heard g d n) { current = c }) (record (past_heard (with_numbers g s h) d n) { current = c })
  past_behind d n c = by_test (is_of_connection g d)
    where
      by_test : (t : Bool) → IsBehind
          (record (if t then record g { heard = max g.heard (n + segment_length d); settled = g.settled || not (has SYN d) } else g) { current = c })
          (record (if t then record (with_numbers g s h) { heard = max h (n + segment_length d); settled = g.settled || not (has SYN d) } else with_numbers g s h) { current = c })
      by_test true =
          let b0 = b.heard in
          let b1 = b.heard_near in
          behind (record g { heard = max g.heard (n + segment_length d); settled = g.settled || not (has SYN d); current = c }) s (max h (n + segment_length d))
          (record { sent = b.sent; sent_near = b.sent_near; heard = omega arith; heard_near = omega arith })
      by_test false = behind (record g { current = c }) s h (record { sent = b.sent; sent_near = b.sent_near; heard = b.heard; heard_near = b.heard_near })

kept_of : (k r : Kept) (d : Segment) (n : ℕ) (c : Option ℕ) → IsBehind k r → IsBehind (record (past_heard k d n) { current = c }) (record (past_heard r d n) { current = c })
kept_of k r d n c b = of_behind (λ (x : Kept). IsBehind (record (past_heard k d n) { current = c }) (record (past_heard x d n) { current = c })) k r b (λ s h bounds. past_behind k s h bounds d n c)

-- ---- what is handed on

asked_same : (d : Segment) (p : Finding) (x y : Bool) → x ≡ y → (if has RST d || x then None else Some p.rnext_key_id) ≡ (if has RST d || y then None else Some p.rnext_key_id)
asked_same d p x y e = ap (λ (t : Bool). if has RST d || t then None else Some p.rnext_key_id) e

handed_alike : (here : Setting) (pair : Pair) (g : Kept) (s h : ℕ) (b : Bounds g s h) (d : Segment) (bytes : List ℕ) (p : Finding) → reading bytes ≡ Read d
    → IsOpenedAlike g (with_numbers g s h) bytes (handed_on here pair g d p) (handed_on here pair (with_numbers g s h) d p)
handed_alike here pair g s h b d bytes p read =
    let r = with_numbers g s h in
    record {
      passed = refl;
      segment = refl;
      kept = kept_of (admitted g d) (admitted r d) d p.number (row_asked here pair g.current (asked_id r d p)) (admitted_behind g s h b d);
      current = λ e is same.
          let one : d ≡ e = read_is d e (sym read ∙ is) in
          ap (λ (id : Option ℕ). row_asked here pair g.current id) (asked_same d p (may_be_replayed r d p.number) (may_be_replayed g d p.number)
          (subst (λ (f : Segment). may_be_replayed r f p.number ≡ may_be_replayed g f p.number) (sym one) (sym same)));
    }
  where
    read_is : (x y : Segment) → Read x ≡ Read y → x ≡ y
    read_is x y e = cc

module _ (here : Setting) (pair : Pair) (g : Kept) (s h : ℕ) (b : Bounds g s h) (d : Segment) (bytes : List ℕ) (read : reading bytes ≡ Read d) (close : Close g.heard d) where
  after_demand : (t : Bool) (why : Untaken) (f k : Unit {0} → Result Opened Untaken) → AreTakenAlike g (with_numbers g s h) bytes (f tt) (k tt) → AreTakenAlike g (with_numbers g s h) bytes (demand t why >>= f) (demand t why >>= k)
  after_demand true why f k more = more
  after_demand false why f k more = refl

  after_verdict : (j : Judgement) → AreTakenAlike g (with_numbers g s h) bytes (as_taken j >>= λ p. Ok (handed_on here pair g d p)) (as_taken j >>= λ p. Ok (handed_on here pair (with_numbers g s h) d p))
  after_verdict (Ok p) = handed_alike here pair g s h b d bytes p read
  after_verdict (Err why) = refl

  taken_alike : AreTakenAlike g (with_numbers g s h) bytes (take_in here pair g d) (take_in here pair (with_numbers g s h) d)
  unfolding take_in
  taken_alike =
      after_demand (is_keyed here.rows pair) Unkeyed _ _ (after_demand (good d) Checksum _ _
      (subst (λ (j : Judgement). AreTakenAlike g (with_numbers g s h) bytes (as_taken (judged_arrival here pair g d) >>= λ p. Ok (handed_on here pair g d p)) (as_taken j >>= λ p. Ok (handed_on here pair (with_numbers g s h) d p)))
      (sym (arrival_behind g s h b here pair d close)) (after_verdict (judged_arrival here pair g d))))

read_alike : (here : Setting) (pair : Pair) (g : Kept) (s h : ℕ) (b : Bounds g s h) (bytes : List ℕ) (x : Reading) → reading bytes ≡ x → ((d : Segment) → reading bytes ≡ Read d → Close g.heard d)
    → AreTakenAlike g (with_numbers g s h) bytes (take_read here pair g x) (take_read here pair (with_numbers g s h) x)
read_alike here pair g s h b bytes (Unread fault) is close = refl
read_alike here pair g s h b bytes (Read d) is close = by_test (from_peer pair d)
  where
    by_test : (t : Bool) → AreTakenAlike g (with_numbers g s h) bytes (if t then take_in here pair g d else Err Foreign) (if t then take_in here pair (with_numbers g s h) d else Err Foreign)
    by_test true = taken_alike here pair g s h b d bytes is (close d is)
    by_test false = refl

pub arriving : (here : Setting) (pair : Pair) (g r : Kept) (bytes : List ℕ) → IsBehind g r → IsClose g.heard bytes → AreTakenAlike g r bytes (inbound here pair g bytes) (inbound here pair r bytes)
arriving here pair g r bytes b close =
    of_behind (λ (x : Kept). AreTakenAlike g x bytes (inbound here pair g bytes) (inbound here pair x bytes)) g r b
    (λ s h bounds. read_alike here pair g s h bounds bytes (reading bytes) refl close)
