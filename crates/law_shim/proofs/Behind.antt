-- A guard behind another one answers as that one does.
use Rattle.std.proofs.Common.{◌≡◌, ℕ, ◌+◌, ◌-◌, ◌%◌, ◌^◌, ◌<◌, ◌≤◌, ◌&&◌, ◌||◌, not, max, nat_le, nat_lt, Bool, true, false, List, Option, Some, None, Result, Err, refl, sym, ap, subst, ◌∙◌, arith, if◌then◌else◌}
use Rattle.std.proofs.lemmas.Bool.Decides.{nat_tests}
use Rattle.std.specs.List.{list_any}
use Rattle.book_base.specs.declared.address.Pair.{Pair}
use Rattle.book_base.specs.Results.{◌>>=◌, or_fault}
use Rattle.book_segments.specs.Bytes.{ring}
use Rattle.book_segments.specs.Meant.{meant}
use Rattle.book_segments.specs.Options.{plains, listed, options_of}
use Rattle.book_segments.specs.Sockets.{same_socket}
use Rattle.book_segments.specs.Segments.{Segment, Reading, Bad as Unread, Read, reading, has, SYN, ACK, segment_length}
use Rattle.book_macs.specs.Contexts.{context_of}
use Rattle.book_keys.specs.Coordination.{choose}
use Rattle.book_endpoint.specs.States.{number_limit}
use Rattle.book_endpoint.specs.Verdicts.{segment_number}
use Rattle.book_endpoint.specs.Emissions.{ao_length, no_mac}
use Rattle.book_shim.specs.declared.kept.Isns.{Isns}
use Rattle.book_shim.specs.declared.kept.Kept.{Kept}
use Rattle.book_shim.specs.declared.refusal.Unsent.{Unsent}
use Rattle.book_shim.specs.declared.refusal.Unsent.TheVariants.{Foreign, Unkeyed, Signed, NoContext, Range, NoKey, NoRoom, TooLong}
use Rattle.book_shim.specs.Keeping.{Setting, demand, own_isn, peer_isn, is_keyed, is_the_number, are_isns, is_opening_syn, answered_isn, connection_begun}
use Rattle.book_shim.specs.Relaying.{fitted, length_in_header}
use Rattle.book_shim.specs.Saving.{resumed, saved_stretch}
use Rattle.book_shim.specs.Leaving.{Sealed, signs, opening, accepting, entered, resets, as_late, kept_for, past_sent, send_within, send_sealed, send_read, outbound, with_ao}
use Rattle.law_shim.proofs.Opening.{meant_near}
use Rattle.law_shim.specs.Restoring.{with_numbers, IsBehind, IsQuiet, IsClose, AreSentAlike}

-- ---- the number meant

remainder : (seq expected n : ℕ) → meant seq expected ≡ Some n → n % ring ≡ seq % ring
unfolding meant
remainder seq expected n e =
    by_tests (nat_lt ((seq + ring - expected % ring) % ring) (2 ^ 31)) (nat_le (ring - (seq + ring - expected % ring) % ring) expected) refl refl e
  where
    by_tests : (b c : Bool) → b ≡ nat_lt ((seq + ring - expected % ring) % ring) (2 ^ 31) → c ≡ nat_le (ring - (seq + ring - expected % ring) % ring) expected
        → (if b then Some (expected + (seq + ring - expected % ring) % ring) else (if c then Some (expected - (ring - (seq + ring - expected % ring) % ring)) else None)) ≡ Some n → n % ring ≡ seq % ring
    by_tests true c tb tc e = let is : expected + (seq + ring - expected % ring) % ring ≡ n = cc in omega arith
    by_tests false true tb tc e =
        let is : expected - (ring - (seq + ring - expected % ring) % ring) ≡ n = cc in
        let le : ring - (seq + ring - expected % ring) % ring ≤ expected = grind (arith, nat_tests) in
        omega arith
    by_tests false false tb tc e = absurd (cc)

meant_of_rest : (seq x : ℕ) → meant seq x ≡ meant (seq % ring) x
unfolding meant
meant_of_rest seq x =
    let same : (seq + ring - x % ring) % ring ≡ (seq % ring + ring - x % ring) % ring = omega arith in
    ap (λ (a : ℕ). if nat_lt a (2 ^ 31) then Some (x + a) else (if nat_le (ring - a) x then Some (x - (ring - a)) else None)) same

shifted : (seq x s n : ℕ) → meant seq x ≡ Some n → s ≤ x → x < s + saved_stretch → n + saved_stretch ≤ x + 2 ^ 31 → x + saved_stretch ≤ n + 2 ^ 31 → meant seq s ≡ meant seq x
shifted seq x s n e low near up down =
    let rest = remainder seq x n e in
    meant_of_rest seq s ∙ (ap (λ k. meant k s) (sym rest) ∙ (meant_near n s (omega arith) (omega arith) ∙ sym e))

-- a segment without SYN means a number that is close
abbrev pub Close : ℕ → Segment → Type 0
Close x d = has SYN d ≡ false → (n : ℕ) × (meant d.sequence x ≡ Some n) × (n + saved_stretch ≤ x + 2 ^ 31) × (x + saved_stretch ≤ n + 2 ^ 31)

pub same_number : (d : Segment) (x s : ℕ) → s ≤ x → x < s + saved_stretch → Close x d → segment_number d (Some s) ≡ segment_number d (Some x)
same_number d x s low near close = by_test (has SYN d) refl
  where
    by_test : (b : Bool) → has SYN d ≡ b → (if b then Some d.sequence else meant d.sequence s) ≡ (if b then Some d.sequence else meant d.sequence x)
    by_test true e = refl
    by_test false e = let c = close e in shifted d.sequence x s c.0 c.1 low near c.2 c.3

-- ---- one behind the other

pub record Bounds (g : Kept) (s h : ℕ) : Type 0 where
  pub sent : s ≤ g.sent
  pub sent_near : g.sent < s + saved_stretch
  pub heard : h ≤ g.heard
  pub heard_near : g.heard < h + saved_stretch

pub behind : (g : Kept) (s h : ℕ) → Bounds g s h → IsBehind g (with_numbers g s h)
behind g s h b = record { same = refl; sent = b.sent; sent_near = b.sent_near; heard = b.heard; heard_near = b.heard_near }

pub of_behind : (P : Kept → Type 0) (g r : Kept) → IsBehind g r → ((s h : ℕ) → Bounds g s h → P (with_numbers g s h)) → P r
of_behind P g r b f = subst P (sym b.same) (f r.sent r.heard (record { sent = b.sent; sent_near = b.sent_near; heard = b.heard; heard_near = b.heard_near }))

pub itself : (g : Kept) → IsBehind g g
itself g = record { same = refl; sent = omega arith; sent_near = omega arith; heard = omega arith; heard_near = omega arith }

-- ---- out

module _ (g : Kept) (s h : ℕ) (b : Bounds g s h) where
  opens_behind : (t : Bool) (own : ℕ) → IsBehind (if t then g else record g { opening = Some own; given_up = g.opening; current = None })
      (if t then with_numbers g s h else record (with_numbers g s h) { opening = Some own; given_up = g.opening; current = None })
  opens_behind true own = behind g s h b
  opens_behind false own = behind (record g { opening = Some own; given_up = g.opening; current = None }) s h (record { sent = b.sent; sent_near = b.sent_near; heard = b.heard; heard_near = b.heard_near })

  accepts_behind : (t : Bool) (own peer : ℕ) → IsBehind (if t then g else connection_begun g own peer) (if t then with_numbers g s h else connection_begun (with_numbers g s h) own peer)
  accepts_behind true own peer = behind g s h b
  accepts_behind false own peer = itself (connection_begun g own peer)

  entered_behind : (d : Segment) → IsBehind (entered g d) (entered (with_numbers g s h) d)
  entered_behind d = by_tests (has SYN d) (has ACK d)
    where
      by_tests : (x y : Bool) → IsBehind (if x then (if y then accepting g d.sequence (answered_isn d) else opening g d.sequence) else g)
          (if x then (if y then accepting (with_numbers g s h) d.sequence (answered_isn d) else opening (with_numbers g s h) d.sequence) else with_numbers g s h)
      by_tests true true = accepts_behind (are_isns g.isns d.sequence (answered_isn d)) d.sequence (answered_isn d)
      by_tests true false = opens_behind (is_the_number (own_isn g) d.sequence || is_the_number g.opening d.sequence) d.sequence
      by_tests false y = behind g s h b

  context_same : (d : Segment) → context_of d (own_isn (kept_for (with_numbers g s h) d)) (peer_isn (kept_for (with_numbers g s h) d)) ≡ context_of d (own_isn (kept_for g d)) (peer_isn (kept_for g d))
  context_same d = by_test (resets g.late d) g.late
    where
      by_test : (t : Bool) (l : Option Isns) → context_of d (own_isn (if t then as_late (with_numbers g s h) l else with_numbers g s h)) (peer_isn (if t then as_late (with_numbers g s h) l else with_numbers g s h))
          ≡ context_of d (own_isn (if t then as_late g l else g)) (peer_isn (if t then as_late g l else g))
      by_test true None = refl
      by_test true (Some c) = refl
      by_test false l = refl

  number_same : (d : Segment) → Close g.sent d → segment_number d (Some (kept_for (with_numbers g s h) d).sent) ≡ segment_number d (Some (kept_for g d).sent)
  number_same d close = by_test (resets g.late d) g.late
    where
      by_test : (t : Bool) (l : Option Isns) → segment_number d (Some (if t then as_late (with_numbers g s h) l else with_numbers g s h).sent) ≡ segment_number d (Some (if t then as_late g l else g).sent)
      by_test true None = same_number d g.sent s b.sent b.sent_near close
      by_test true (Some c) = refl
      by_test false l = same_number d g.sent s b.sent b.sent_near close

  past_behind : (d : Segment) (n : ℕ) (c : Option ℕ) → IsBehind (record (past_sent g d n) { current = c }) (record (past_sent (with_numbers g s h) d n) { current = c })
  past_behind d n c = by_tests (is_opening_syn d) (resets g.late d)
    where
      by_tests : (x y : Bool) → IsBehind
          (record (if x then g else (if y then record g { late = None } else record g { sent = max g.sent (n + segment_length d); settled = g.settled || not (has SYN d) })) { current = c })
          (record (if x then with_numbers g s h else (if y then record (with_numbers g s h) { late = None } else record (with_numbers g s h) { sent = max s (n + segment_length d); settled = g.settled || not (has SYN d) })) { current = c })
      by_tests true y = behind (record g { current = c }) s h (record { sent = b.sent; sent_near = b.sent_near; heard = b.heard; heard_near = b.heard_near })
      by_tests false true = behind (record g { late = None; current = c }) s h (record { sent = b.sent; sent_near = b.sent_near; heard = b.heard; heard_near = b.heard_near })
      by_tests false false =
          let b0 = b.sent in
          let b1 = b.sent_near in
          behind (record g { sent = max g.sent (n + segment_length d); settled = g.settled || not (has SYN d); current = c }) (max s (n + segment_length d)) h
          (record { sent = omega arith; sent_near = omega arith; heard = b.heard; heard_near = b.heard_near })

alike_demand : (t : Bool) (why : Unsent) (f k : Unit {0} → Result Sealed Unsent) → ((u : Unit {0}) → AreSentAlike (f u) (k u)) → AreSentAlike (demand t why >>= f) (demand t why >>= k)
alike_demand true why f k more = more tt
alike_demand false why f k more = refl

alike_option : {A : Type 0} (o p : Option A) (why : Unsent) (f k : A → Result Sealed Unsent) → p ≡ o → ((x : A) → AreSentAlike (f x) (k x)) → AreSentAlike (or_fault o why >>= f) (or_fault p why >>= k)
alike_option (Some x) (Some y) why f k e more = let same : y ≡ x = cc in subst (λ z. AreSentAlike (f x) (k z)) (sym same) (more x)
alike_option None None why f k e more = refl
alike_option None (Some y) why f k e more = absurd (cc)
alike_option (Some x) None why f k e more = absurd (cc)

within_alike : (here : Setting) (pair : Pair) (g : Kept) (d : Segment) (s h : ℕ) → Bounds g s h → Close g.sent d → AreSentAlike (send_within here pair g d) (send_within here pair (with_numbers g s h) d)
unfolding send_within
within_alike here pair g d s h b close =
    let r = with_numbers g s h in
    alike_demand (is_keyed here.rows pair) Unkeyed _ _
    (λ u. alike_demand (not (list_any signs (plains (listed (options_of d.area))))) Signed _ _
    (λ u. alike_option (context_of d (own_isn (kept_for g d)) (peer_isn (kept_for g d))) (context_of d (own_isn (kept_for r d)) (peer_isn (kept_for r d))) NoContext _ _ (context_same g s h b d)
    (λ c. alike_option (segment_number d (Some (kept_for g d).sent)) (segment_number d (Some (kept_for r d).sent)) Range _ _ (number_same g s h b d close)
    (λ n. alike_demand (nat_le (n + segment_length d) number_limit) Range _ _
    (λ u. alike_option (choose g.current here.rows pair here.now) (choose g.current here.rows pair here.now) NoKey _ _ refl
    (λ s. alike_option (fitted (40 - ao_length s) d.area) (fitted (40 - ao_length s) d.area) NoRoom _ _ refl
    (λ area. alike_demand (nat_le (length_in_header d.ip (with_ao d area s (no_mac s))) 65535) TooLong _ _
    (λ u. (refl, past_behind g r.sent r.heard b d n (Some s.number))))))))))

sent_close : (g : Kept) (d : Segment) → Close g.sent d → Close (entered g d).sent d
sent_close g d close plain = subst (λ (k : Kept). (n : ℕ) × (meant d.sequence k.sent ≡ Some n) × (n + saved_stretch ≤ k.sent + 2 ^ 31) × (k.sent + saved_stretch ≤ n + 2 ^ 31)) (sym (not_entered plain)) (close plain)
  where
    not_entered : has SYN d ≡ false → entered g d ≡ g
    not_entered plain = rw plain refl

sealed_alike : (here : Setting) (pair : Pair) (g r : Kept) (d : Segment) → IsBehind g r → Close g.sent d → AreSentAlike (send_sealed here pair g d) (send_sealed here pair r d)
sealed_alike here pair g r d b close =
    of_behind (λ (x : Kept). AreSentAlike (send_sealed here pair g d) (send_sealed here pair x d)) g r b
    (λ s h bounds. of_behind (λ (y : Kept). AreSentAlike (send_within here pair (entered g d) d) (send_within here pair y d)) (entered g d) (entered (with_numbers g s h) d) (entered_behind g s h bounds d)
    (λ s2 h2 bounds2. within_alike here pair (entered g d) d s2 h2 bounds2 (sent_close g d close)))

read_alike : (here : Setting) (pair : Pair) (g r : Kept) (x : Reading) → IsBehind g r → ((d : Segment) → x ≡ Read d → Close g.sent d) → AreSentAlike (send_read here pair g x) (send_read here pair r x)
read_alike here pair g r (Unread fault) b close = refl
read_alike here pair g r (Read d) b close = by_test (same_socket d.source pair.local && same_socket d.destination pair.remote)
  where
    by_test : (t : Bool) → AreSentAlike (if t then send_sealed here pair g d else Err Foreign) (if t then send_sealed here pair r d else Err Foreign)
    by_test true = sealed_alike here pair g r d b (close d refl)
    by_test false = refl

pub leaving : (here : Setting) (pair : Pair) (g r : Kept) (bytes : List ℕ) → IsBehind g r → IsClose g.sent bytes → AreSentAlike (outbound here pair g bytes) (outbound here pair r bytes)
leaving here pair g r bytes b close = read_alike here pair g r (reading bytes) b close

pub begins : (g : Kept) (isns : Isns) (sent heard : ℕ) → g.isns ≡ Some isns → IsQuiet g → sent ≤ g.sent → g.sent < sent + saved_stretch → heard ≤ g.heard → g.heard < heard + saved_stretch
    → IsBehind g (resumed isns sent heard g.current)
begins g isns sent heard is quiet a b c d = record {
  same = rw (is, quiet.opening, quiet.given_up, quiet.late, quiet.settled) refl;
  sent = a;
  sent_near = b;
  heard = c;
  heard_near = d;
}
