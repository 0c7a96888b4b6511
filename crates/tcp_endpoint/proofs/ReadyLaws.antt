-- What an end shows of the state that it stands for.
use Rattle.std.proofs.Common.{◌≡◌, ℕ, zero, suc, ◌+◌, ◌-◌, ◌≤◌, min, Bool, true, false, ◌||◌, List, [], ◌∷◌, ◌++◌, length, take, drop, Option, Some, None, unwrap_or, refl, sym, ap, ◌∙◌, arith, length-append}
use Rattle.std.proofs.lemmas.Bool.Decides.{nat_tests}
use Rattle.std.specs.Prelude.{nat_lt, nat_le, is_some, ◌==◌, ◌&&◌, if◌then◌else◌}
use Rattle.book_endpoint.specs.declared.phase.Phase.{Phase}
use Rattle.book_endpoint.specs.declared.phase.Phase.TheVariants.{Listen, SynSent, SynReceived, Established, FinWait1, FinWait2, CloseWait, Closing, LastAck, TimeWait, Closed}
use Rattle.book_endpoint.specs.States as book
use Rattle.book_segments.specs.Received.{below_limit, bytes_from}
use Rattle.stream_buffers.specs.Kept.{Kept, Shows, byte_at, forgotten_below, ready_count, window}
use Rattle.tcp_endpoint.specs.declared.endpoint.Endpoint.{Endpoint}
use Rattle.tcp_endpoint.specs.Halves.{fin_gone, fin_made, knows, waits}
use Rattle.tcp_endpoint.specs.Numbers.{expected_in, fin_in}
use Rattle.tcp_endpoint.specs.declared.sequence.Received.{Received}
use Rattle.tcp_endpoint.specs.Ends.{Stands}
use Rattle.tcp_endpoint.specs.Answers.{offered}

-- where bytes are given, the own FIN was not made
pub still_open : (p : Phase) (closing : Bool) → (fin_made p ≡ true → closing ≡ true) → closing ≡ false → book.is_closed p ≡ false → fin_gone p ≡ false
still_open Listen b f e n = refl
still_open SynSent b f e n = refl
still_open SynReceived b f e n = refl
still_open Established b f e n = refl
still_open FinWait1 b f e n = let h = f refl in absurd (cc)
still_open FinWait2 b f e n = let h = f refl in absurd (cc)
still_open CloseWait b f e n = refl
still_open Closing b f e n = let h = f refl in absurd (cc)
still_open LastAck b f e n = let h = f refl in absurd (cc)
still_open TimeWait b f e n = let h = f refl in absurd (cc)
still_open Closed b f e n = absurd (cc)

-- the first bytes alone
pub length_bytes : (m : ℕ → Option ℕ) (n c : ℕ) → length (bytes_from m n c) ≡ c
length_bytes m n zero = refl
length_bytes m n (suc c) = ap suc (length_bytes m (suc n) c)

-- the bytes from n on, where both maps have the same ones
pub same_bytes : (m o : ℕ → Option ℕ) (n c : ℕ) → ((p : ℕ) → n ≤ p → m p ≡ o p) → bytes_from m n c ≡ bytes_from o n c
same_bytes m o n zero same = refl
same_bytes m o n (suc c) same =
    let here : m n ≡ o n = same n (omega arith) in
    let rest : bytes_from m (suc n) c ≡ bytes_from o (suc n) c = same_bytes m o (suc n) c (λ p h. same p (omega arith)) in
    cc

pub take_bytes : (m : ℕ → Option ℕ) (n c k : ℕ) → take k (bytes_from m n c) ≡ bytes_from m n (min k c)
take_bytes m n zero zero = refl
take_bytes m n zero (suc k) = let e : min (suc k) 0 ≡ 0 = omega arith in rw e refl
take_bytes m n (suc c) zero = let e : min 0 (suc c) ≡ 0 = omega arith in rw e refl
take_bytes m n (suc c) (suc k) =
    let e : min (suc k) (suc c) ≡ suc (min k c) = omega arith in
    rw e (ap (λ l. unwrap_or (m n) 0 ∷ l) (take_bytes m (suc n) c k))

pub ready_is : (e : Endpoint) (s : book.EndState) → Stands e s → book.ready_count s ≡ ready_count e.reassembly
ready_is e s h =
    let x : e.reassembly.expected ≡ below_limit s.fin s.expected = rw (← h.fin, ← h.expected) e.receives.missing in
    let at : e.reassembly.from ≡ book.first s.peer_isn + length s.taken = rw (← h.peer_isn, ← h.taken) e.receives.from in
    rw (x, at) refl

pub ready_from : (e : Endpoint) (s : book.EndState) → Stands e s → e.reassembly.from ≡ book.ready_at s
ready_from e s h = rw (← h.peer_isn, ← h.taken) e.receives.from

shifted : (m : ℕ → Option ℕ) (a b c d : ℕ) → a ≡ b → c ≡ d → bytes_from m a c ≡ bytes_from m b d
shifted m a b c d p q = ap (λ x. bytes_from m x c) p ∙ ap (λ y. bytes_from m b y) q

pub taking_is : (e : Endpoint) (s : book.EndState) → Stands e s → (n : ℕ) → bytes_from (byte_at e.reassembly) e.reassembly.from (min n (ready_count e.reassembly)) ≡ book.taking n s
unfolding book.ready
taking_is e s h n =
    shifted (byte_at e.reassembly) e.reassembly.from (book.ready_at s) (min n (ready_count e.reassembly)) (min n (book.ready_count s)) (ready_from e s h) (ap (λ c. min n c) (sym (ready_is e s h)))
    ∙ same_bytes (byte_at e.reassembly) s.received (book.ready_at s) (min n (book.ready_count s)) h.bytes
    ∙ sym (take_bytes s.received (book.ready_at s) (book.ready_count s) n)

pub window_is : (e : Endpoint) (s : book.EndState) → Stands e s → book.window s ≡ window e.reassembly
window_is e s h = rw (ready_is e s h) refl

pub taking_count : (e : Endpoint) (s : book.EndState) → Stands e s → (n : ℕ) → length (book.taking n s) ≡ min n (ready_count e.reassembly)
taking_count e s h n = rw (← taking_is e s h n) (length_bytes (byte_at e.reassembly) e.reassembly.from (min n (ready_count e.reassembly)))

window_at : (high first taken r more from expected : ℕ) → more ≡ taken + r → from ≡ first + taken + r → expected ≡ high → 65535 - (high - (first + more)) ≡ 65535 - (expected - from)
window_at high first taken r more from expected a b c = omega arith

-- bytes behind those that the queue lost
pub drop_append : (k : ℕ) (given piece : List ℕ) → k ≤ length given → drop k (given ++ piece) ≡ drop k given ++ piece
drop_append zero given piece h = refl
drop_append (suc k) [] piece h = absurd (omega arith)
drop_append (suc k) (b ∷ given) piece h = drop_append k given piece (omega arith)

-- what isn't acknowledged was given, where bytes may still be given
pub una_given : (e : Endpoint) (s : book.EndState) → Stands e s → e.closing ≡ false → book.is_closed e.phase ≡ false → s.una - (s.isn + 1) ≤ length s.given
una_given e s h more still =
    let gone = still_open e.phase e.closing e.sends.closed more still in
    let most = e.sends.unfinished gone in
    omega (arith, e.sends.order, h.una, h.isn, h.given, most)

pub room_is : (e : Endpoint) (s : book.EndState) → Stands e s → min (65535 - length e.queue) (9223372036854775807 - (e.isn + 1 + e.given)) ≡ book.room s
room_is e s h = omega (arith, e.sends.queue, h.una, h.isn, h.given)

pub gives_true : (s : book.EndState) → s.closing ≡ false → book.is_closed s.phase ≡ false → book.gives s ≡ true
gives_true s e n = rw (e, n) refl

pub offered_is : (s : book.EndState) (piece : List ℕ) → book.gives s ≡ true → length piece ≤ book.room s → offered piece s ≡ book.give piece s
offered_is s piece g r =
    let t : nat_lt (book.room s) (length piece) ≡ false = grind (arith, nat_tests) in
    rw (g, t) refl

picked : (b : Bool) (x y : Option ℕ) → b ≡ true → (if b then x else y) ≡ x
picked true x y e = refl
picked false x y e = absurd (cc)

either_same : (a b c d : Bool) → a ≡ b → c ≡ d → (a || c) ≡ (b || d)
either_same a b c d p q = rw (p, q) refl

-- the window after a take
pub window_taken : (e : Endpoint) (s : book.EndState) → Stands e s → (n : ℕ) (k : Kept) → k.from ≡ e.reassembly.from + min n (ready_count e.reassembly) → k.expected ≡ e.reassembly.expected → book.window (record s { taken = s.taken ++ book.taking n s }) ≡ window k
window_taken e s h n k at x =
    let count = taking_count e s h n in
    let more : length (s.taken ++ book.taking n s) ≡ length s.taken + min n (ready_count e.reassembly) = length-append s.taken (book.taking n s) ∙ ap (λ c. length s.taken + c) count in
    let high : e.reassembly.expected ≡ below_limit s.fin s.expected = rw (← h.fin, ← h.expected) e.receives.missing in
    let low = ready_from e s h in
    window_at (below_limit s.fin s.expected) (book.first s.peer_isn) (length s.taken) (min n (ready_count e.reassembly)) (length (s.taken ++ book.taking n s)) k.from k.expected more (at ∙ ap (λ c. c + min n (ready_count e.reassembly)) low) (x ∙ high)

-- what is ready after a take
pub bytes_taken : (e : Endpoint) (s : book.EndState) → Stands e s → (n r x : ℕ) (k : Kept) → r ≡ min n (ready_count e.reassembly)
    → Shows k (e.reassembly.from + r) x (forgotten_below (e.reassembly.from + r) (byte_at e.reassembly))
    → (p : ℕ) → book.first s.peer_isn + length (s.taken ++ book.taking n s) ≤ p → byte_at k p ≡ s.received p
bytes_taken e s h n r x k q shows p le =
    let count = taking_count e s h n in
    let more : length (s.taken ++ book.taking n s) ≡ length s.taken + length (book.taking n s) = length-append s.taken (book.taking n s) in
    let low = ready_from e s h in
    let above : e.reassembly.from + r ≤ p = omega (arith, count, more, low, q, le) in
    let test : nat_le (e.reassembly.from + r) p ≡ true = grind (arith, nat_tests) in
    let here : byte_at e.reassembly p ≡ s.received p = h.bytes p (omega (arith, count, more, low, q, le)) in
    shows.bytes p ∙ picked (nat_le (e.reassembly.from + r) p) (byte_at e.reassembly p) None test ∙ here

opens_same : (p1 p2 : Phase) (a b c d : ℕ) → p1 ≡ p2 → a ≡ b → c ≡ d → (book.hears p1 && (a == 0) && nat_lt 0 c) ≡ (book.hears p2 && (b == 0) && nat_lt 0 d)
opens_same p1 p2 a b c d p q r = rw (p, q, r) refl

pub owed_taken : (e : Endpoint) (s : book.EndState) → Stands e s → (n : ℕ) (k : Kept) → k.from ≡ e.reassembly.from + min n (ready_count e.reassembly) → k.expected ≡ e.reassembly.expected
    → (before after : ℕ) (b : Bool) → before ≡ window e.reassembly → after ≡ window k → b ≡ (book.hears e.phase && (before == 0) && nat_lt 0 after)
    → (e.ack_owed || b) ≡ (s.ack_owed || book.opens s (record s { taken = s.taken ++ book.taking n s }))
owed_taken e s h n k at x before after b p q r =
    let w1 : before ≡ book.window s = p ∙ sym (window_is e s h) in
    let w2 : after ≡ book.window (record s { taken = s.taken ++ book.taking n s }) = q ∙ sym (window_taken e s h n k at x) in
    let o : b ≡ book.opens s (record s { taken = s.taken ++ book.taking n s }) = r ∙ opens_same e.phase s.phase before (book.window s) after (book.window (record s { taken = s.taken ++ book.taking n s })) h.phase w1 w2 in
    either_same e.ack_owed s.ack_owed b (book.opens s (record s { taken = s.taken ++ book.taking n s })) h.ack_owed o

chosen_none : (b : Bool) (x : Option ℕ) → x ≡ None → (if b then x else None) ≡ None
chosen_none true x e = e
chosen_none false x e = refl

pub forgotten_none : (n : ℕ) (m : ℕ → Option ℕ) (p : ℕ) → m p ≡ None → forgotten_below n m p ≡ None
forgotten_none n m p e = chosen_none (nat_le n p) (m p) e

pub nothing_expected : (r : Option Received) → is_some r ≡ false → expected_in r ≡ 0
nothing_expected None e = refl
nothing_expected (Some r) e = absurd (cc)

pub nothing_recorded : (r : Option Received) → is_some r ≡ false → fin_in r ≡ None
nothing_recorded None e = refl
nothing_recorded (Some r) e = absurd (cc)

pub nothing_known : (e : Endpoint) → waits e.phase ≡ true → is_some e.sequence.received ≡ false
nothing_known e w = e.receives.same ∙ ap is_some (e.receives.unknown w)

knowing : (p : Phase) → waits p ≡ false → book.is_closed p ≡ false → knows p ≡ true
knowing Listen w a = absurd (cc)
knowing SynSent w a = absurd (cc)
knowing SynReceived w a = refl
knowing Established w a = refl
knowing FinWait1 w a = refl
knowing FinWait2 w a = refl
knowing CloseWait w a = refl
knowing Closing w a = refl
knowing LastAck w a = refl
knowing TimeWait w a = refl
knowing Closed w a = absurd (cc)

pub something_known : (e : Endpoint) → waits e.phase ≡ false → book.is_closed e.phase ≡ false → is_some e.sequence.received ≡ true
something_known e w a = e.receives.same ∙ e.receives.known (knowing e.phase w a)

limit_zero : (fin : Option ℕ) (x : ℕ) → fin ≡ None → x ≡ 0 → below_limit fin x ≡ 0
limit_zero None x e f = f
limit_zero (Some g) x e f = absurd (cc)

pub untaken_still : (e : Endpoint) → waits e.phase ≡ true → (x n r : ℕ) → r ≡ min n (ready_count e.reassembly) → e.taken + r ≡ 0
untaken_still e w x n r q =
    let known = nothing_known e w in
    let none : e.reassembly.expected ≡ 0 = e.receives.missing ∙ limit_zero (fin_in e.sequence.received) (expected_in e.sequence.received) (nothing_recorded e.sequence.received known) (nothing_expected e.sequence.received known) in
    omega (arith, e.receives.untaken w, none, q)
