-- Payload and FIN: what the buffer keeps is what the book keeps.
use Rattle.std.proofs.Common.{◌≡◌, ℕ, ◌+◌, ◌-◌, ◌^◌, ◌<◌, ◌≤◌, ◌↔◌, min, Bool, true, false, not, length, Option, Some, None, refl, sym, ap, ◌∙◌, arith, subst}
use Rattle.std.specs.Prelude.{nat_lt, nat_le, ◌==◌, ◌&&◌, if◌then◌else◌, is_some, IsSome, IsTrue}
use Rattle.std.proofs.lemmas.Bool.Decides.{nat_tests}
use Rattle.book_segments.specs.Segments.{Segment, has, FIN}
use Rattle.book_endpoint.specs.declared.phase.Phase.{Phase}
use Rattle.book_endpoint.specs.declared.phase.Phase.TheVariants.{Listen, SynSent, SynReceived, Established, FinWait1, FinWait2, CloseWait, Closing, LastAck, TimeWait, Closed}
use Rattle.book_endpoint.specs.States as states
use Rattle.book_endpoint.specs.Hearing as hearing
use Rattle.endpoint_steps.specs.Arriving as stages
use Rattle.book_segments.specs.Received.{keep, first_missing, runs, below_limit}
use Rattle.stream_buffers.specs.Kept.{Kept, IsKept, Shows, byte_at, grown, window, missing_then, runs_then}
use Rattle.book_endpoint.specs.declared.arrival.Arrival.{Arrival}
use Rattle.book_endpoint.specs.declared.arrival.Arrival.TheVariants as answers
use Rattle.tcp_endpoint.specs.declared.endpoint.Endpoint.{Endpoint}
use Rattle.tcp_endpoint.specs.Halves.{Sends, Receives, fin_gone, fin_made, is_open, before_fin, waits, knows}
use Rattle.tcp_endpoint.specs.Numbers.{expected_in, fin_in}
use Rattle.tcp_endpoint.specs.Fins.{is_at, past_or, phase_past}
use Rattle.tcp_endpoint.specs.Ends.{Stands}
use Rattle.tcp_endpoint.specs.Arrivals.{Reaches}
use Rattle.tcp_endpoint.proofs.ReadyLaws.{ready_from, window_is}
use Rattle.tcp_endpoint.proofs.StreamLaws.{SameFrom, none_of, grown_clear, grown_same, missing_then_is, runs_then_is, records_same}

pub reaches_of : {e : Endpoint} {a : Arrival} {m : hearing.Moved} (t : states.EndState) (b : Arrival) → m ≡ hearing.answered t b → Stands e t → a ≡ b → Reaches e a m
reaches_of {e} {a} {m} t b q st an = subst (λ z. Reaches e a z) (sym q) (record { stands = st; answer_is = an })

pub hearing_open : (p : Phase) → states.hears p ≡ true → before_fin p ≡ true
hearing_open Established h = refl
hearing_open FinWait1 h = refl
hearing_open FinWait2 h = refl
hearing_open Listen h = refl
hearing_open SynSent h = refl
hearing_open SynReceived h = refl
hearing_open CloseWait h = absurd (cc)
hearing_open Closing h = absurd (cc)
hearing_open LastAck h = absurd (cc)
hearing_open TimeWait h = absurd (cc)
hearing_open Closed h = absurd (cc)

-- the map once a segment's payload is kept
abbrev pub kept_map : states.EndState → Segment → ℕ → ℕ → Option ℕ
kept_map s d n = keep s.received (record { number = n; bytes = d.payload }) (record { low = s.expected; high = below_limit s.fin (s.expected + states.window s) })

-- a FIN is recorded
abbrev pub recorded : states.EndState → Segment → ℕ → Bool
recorded s d n =
    has FIN d && hearing.in_range (n + length d.payload) s.expected (s.expected + states.window s)
    && (runs (kept_map s d n) false (n + length d.payload) (s.expected + states.window s - (n + length d.payload)) == 0)

-- the state before the FIN is passed
abbrev pub kept_state : states.EndState → Segment → ℕ → states.EndState
kept_state s d n =
    record s { received = kept_map s d n; fin = hearing.fin_of s.fin (recorded s d n) (n + length d.payload); ack_owed = true; expected = first_missing (kept_map s d n) s.expected (states.window s) }

-- the state after
abbrev pub heard_state : states.EndState → Segment → ℕ → states.EndState
heard_state s d n =
    let t = kept_state s d n in
    record t { expected = past_or (is_at t.fin t.expected) t.expected; phase = phase_past (is_at t.fin t.expected) s.phase }

passed : (t : states.EndState) (f : ℕ) (b : Bool) → (b ≡ true → f ≡ t.expected) → (if b then record t { expected = f + 1; phase = hearing.past_fin t.phase } else t) ≡ record t { expected = past_or b t.expected; phase = phase_past b t.phase }
passed t f true h = let e = h refl in ap (λ z. record t { expected = z + 1; phase = hearing.past_fin t.phase }) e
passed t f false h = refl

equal_of : (f x : ℕ) → (f == x) ≡ true → f ≡ x
equal_of f x h = grind (arith, nat_tests)

pass_is : (t : states.EndState) (fin : Option ℕ) → hearing.pass_fin t fin ≡ record t { expected = past_or (is_at fin t.expected) t.expected; phase = phase_past (is_at fin t.expected) t.phase }
pass_is t None = refl
pass_is t (Some f) = passed t f (f == t.expected) (equal_of f t.expected)

pub data_is : (s : states.EndState) (d : Segment) (n now : ℕ) → nat_lt 64 (runs (kept_map s d n) false (first_missing (kept_map s d n) s.expected (states.window s)) (s.expected + states.window s - first_missing (kept_map s d n) s.expected (states.window s))) ≡ false
    → stages.hear_data s d n now true ≡ hearing.finish (heard_state s d n) now
data_is s d n now test =
    ap (λ b. stages.heard_runs s (kept_map s d n) d n now b) test ∙ ap (λ z. hearing.finish z now) (pass_is (kept_state s d n) (kept_state s d n).fin)

pub many_is : (s : states.EndState) (d : Segment) (n now : ℕ) → nat_lt 64 (runs (kept_map s d n) false (first_missing (kept_map s d n) s.expected (states.window s)) (s.expected + states.window s - first_missing (kept_map s d n) s.expected (states.window s))) ≡ true
    → stages.hear_data s d n now true ≡ hearing.answered (hearing.owing s) answers.TooManyRuns
many_is s d n now test = ap (λ b. stages.heard_runs s (kept_map s d n) d n now b) test

-- what holds of the buffer before
pub record Before (e : Endpoint) (s : states.EndState) : Type 0 where
  pub x : e.reassembly.expected ≡ s.expected
  pub w : window e.reassembly ≡ states.window s
  pub same : SameFrom e.reassembly.from (byte_at e.reassembly) s.received

pub before_is : (e : Endpoint) (s : states.EndState) → Stands e s → states.hears e.phase ≡ true → Before e s
before_is e s h open_too = record {
  x = e.receives.hearing (hearing_open e.phase open_too) ∙ h.expected;
  w = sym (window_is e s h);
  same = record { at = λ p le. h.bytes p (subst (λ z. z ≤ p) (ready_from e s h) le) };
}

pub runs_is : (e : Endpoint) (s : states.EndState) → Stands e s → states.hears e.phase ≡ true → (d : Segment) (n : ℕ) (fin : Option ℕ) → fin ≡ s.fin → IsKept e.reassembly
    → runs_then e.reassembly (grown e.reassembly n d.payload fin) ≡ runs (kept_map s d n) false (first_missing (kept_map s d n) s.expected (states.window s)) (s.expected + states.window s - first_missing (kept_map s d n) s.expected (states.window s))
runs_is e s h open_too d n fin q old =
    let b = before_is e s h open_too in
    let same = grown_same e.reassembly s.received n s.expected (states.window s) d.payload fin s.fin b.same b.x b.w q in
    runs_then_is e.reassembly (grown e.reassembly n d.payload fin) (kept_map s d n) s.expected (states.window s) same old.ordered b.x b.w

pub missing_is : (e : Endpoint) (s : states.EndState) → Stands e s → states.hears e.phase ≡ true → (d : Segment) (n : ℕ) (fin : Option ℕ) → fin ≡ s.fin → IsKept e.reassembly
    → missing_then e.reassembly (grown e.reassembly n d.payload fin) ≡ (kept_state s d n).expected
missing_is e s h open_too d n fin q old =
    let b = before_is e s h open_too in
    let same = grown_same e.reassembly s.received n s.expected (states.window s) d.payload fin s.fin b.same b.x b.w q in
    missing_then_is e.reassembly (grown e.reassembly n d.payload fin) (kept_map s d n) s.expected (states.window s) same old.ordered b.x b.w

pub bytes_kept : (e : Endpoint) (s : states.EndState) → Stands e s → states.hears e.phase ≡ true → (d : Segment) (n x : ℕ) (fin : Option ℕ) → fin ≡ s.fin → (k : Kept)
    → Shows k e.reassembly.from x (grown e.reassembly n d.payload fin) → SameFrom e.reassembly.from (byte_at k) (kept_map s d n)
bytes_kept e s h open_too d n x fin q k shows =
    let b = before_is e s h open_too in
    let same = grown_same e.reassembly s.received n s.expected (states.window s) d.payload fin s.fin b.same b.x b.w q in
    record { at = λ p le. shows.bytes p ∙ same.at p le }

test_move : (fin finish : Bool) (f x y w v : ℕ) (kept : Bool) → fin ≡ finish → x ≡ y → w ≡ v → (fin && hearing.in_range f x (x + w) && not kept) ≡ (finish && hearing.in_range f y (y + v) && not kept)
test_move fin finish f x y w v kept p q r = rw (p, q, r) refl

pub recorded_is : (e : Endpoint) (s : states.EndState) → Stands e s → states.hears e.phase ≡ true → (d : Segment) (n missing : ℕ) (fin : Option ℕ) → fin ≡ s.fin → (k : Kept) → IsKept e.reassembly → IsKept k
    → Shows k e.reassembly.from missing (grown e.reassembly n d.payload fin)
    → (kept flag records : Bool) (x w : ℕ) → (IsTrue kept ↔ ((p : ℕ) × (n + length d.payload ≤ p) × IsSome (byte_at k p)))
    → flag ≡ has FIN d → x ≡ e.reassembly.expected → w ≡ window e.reassembly
    → records ≡ (flag && hearing.in_range (n + length d.payload) x (x + w) && not kept)
    → records ≡ recorded s d n
recorded_is e s h open_too d n missing fin q k old new shows kept flag records x w there a b c r =
    let before = before_is e s h open_too in
    let same = bytes_kept e s h open_too d n missing fin q k shows in
    r ∙ test_move flag (has FIN d) (n + length d.payload) x s.expected w (states.window s) kept a (b ∙ before.x) (c ∙ before.w)
    ∙ records_same (has FIN d) (n + length d.payload) s.expected (states.window s) e.reassembly.from kept (byte_at k) (kept_map s d n) same (omega (arith, old.ordered, before.x)) there.0 there.1
    (λ p le. new.far p (omega (arith, shows.from, before.x, before.w, old.few, old.ordered)))

hearing_acked : (p : Phase) → states.hears p ≡ true → is_open p ≡ true
hearing_acked Established h = refl
hearing_acked FinWait1 h = refl
hearing_acked FinWait2 h = refl
hearing_acked Listen h = absurd (cc)
hearing_acked SynSent h = absurd (cc)
hearing_acked SynReceived h = absurd (cc)
hearing_acked CloseWait h = absurd (cc)
hearing_acked Closing h = absurd (cc)
hearing_acked LastAck h = absurd (cc)
hearing_acked TimeWait h = absurd (cc)
hearing_acked Closed h = absurd (cc)

-- the invariant after
past_phases : (b : Bool) (p : Phase) → states.hears p ≡ true → (waits (phase_past b p) ≡ false) × (fin_gone (phase_past b p) ≡ fin_gone p) × (fin_made (phase_past b p) ≡ fin_made p) × (knows (phase_past b p) ≡ true) × (b ≡ true → before_fin (phase_past b p) ≡ false)
past_phases true Established h = (refl, refl, refl, refl, λ _. refl)
past_phases true FinWait1 h = (refl, refl, refl, refl, λ _. refl)
past_phases true FinWait2 h = (refl, refl, refl, refl, λ _. refl)
past_phases false Established h = (refl, refl, refl, refl, λ e. absurd (cc))
past_phases false FinWait1 h = (refl, refl, refl, refl, λ e. absurd (cc))
past_phases false FinWait2 h = (refl, refl, refl, refl, λ e. absurd (cc))
past_phases b Listen h = absurd (cc)
past_phases b SynSent h = absurd (cc)
past_phases b SynReceived h = absurd (cc)
past_phases b CloseWait h = absurd (cc)
past_phases b Closing h = absurd (cc)
past_phases b LastAck h = absurd (cc)
past_phases b TimeWait h = absurd (cc)
past_phases b Closed h = absurd (cc)

pub sends_past : (b : Bool) (p q : Phase) (closing : Bool) (isn una next given queued : ℕ) → states.hears p ≡ true → q ≡ phase_past b p → Sends p closing isn una next given queued → Sends q closing isn una next given queued
sends_past b p q closing isn una next given queued h e s =
    let ph = past_phases b p h in
    record {
      low = s.low;
      order = s.order;
      high = s.high;
      few = s.few;
      queue = s.queue;
      unfinished = λ g. s.unfinished (sym ph.1 ∙ sym (ap fin_gone e) ∙ g);
      acked = λ g. s.acked (hearing_acked p h);
      unacked = λ w. let u : waits q ≡ false = ap waits e ∙ ph.0 in absurd (cc);
      closed = λ g. s.closed (sym ph.2 ∙ sym (ap fin_made e) ∙ g);
    }

many_cases : (c : Bool) (a b : ℕ) → a ≡ b → (a ≤ 64 → false ≡ true) → nat_le a 64 ≡ c → nat_lt 64 b ≡ true
many_cases true a b e h t = let q = h (grind (arith, nat_tests)) in absurd (cc)
many_cases false a b e h t = grind (arith, nat_tests)

pub many_test : (a b : ℕ) → a ≡ b → (a ≤ 64 → false ≡ true) → nat_lt 64 b ≡ true
many_test a b e h = many_cases (nat_le a 64) a b e h refl

pub few_test : (a b : ℕ) → a ≡ b → a ≤ 64 → nat_lt 64 b ≡ false
few_test a b e h = grind (arith, nat_tests)

pub past_move : (fin finish : Option ℕ) (x y : ℕ) (b : Bool) → b ≡ is_at fin x → fin ≡ finish → x ≡ y → b ≡ is_at finish y
past_move fin finish x y b h p q = h ∙ ap (λ z. is_at z x) p ∙ ap (λ z. is_at finish z) q

pub over_move : (b c : Bool) (x y n : ℕ) → n ≡ past_or b x → b ≡ c → x ≡ y → n ≡ past_or c y
over_move b c x y n h p q = h ∙ ap (λ z. past_or z x) p ∙ ap (λ z. past_or c z) q

pub phase_move : (b c : Bool) (p q r : Phase) → r ≡ phase_past b p → b ≡ c → p ≡ q → r ≡ phase_past c q
phase_move b c p q r h e f = h ∙ ap (λ z. phase_past z p) e ∙ ap (λ z. phase_past c z) f

at_is : (fin : Option ℕ) (x : ℕ) → is_at fin x ≡ true → fin ≡ Some x
at_is None x h = absurd (cc)
at_is (Some f) x h = ap Some (equal_of f x h)

-- the FIN that is recorded, or the one that was
pub record Fin (old fin : Option ℕ) (records : Bool) (at : ℕ) : Type 0 where
  pub is : fin ≡ hearing.fin_of old records at

fin_cases : (P : ℕ → Type 0) (old : Option ℕ) (records : Bool) (at : ℕ) → ((f : ℕ) → old ≡ Some f → P f) → (records ≡ true → P at) → (f : ℕ) → hearing.fin_of old records at ≡ Some f → P f
fin_cases P (Some g) records at a b f e = a f e
fin_cases P None true at a b f e = let q : at ≡ f = cc in subst P q (b refl)
fin_cases P None false at a b f e = absurd (cc)

limit_past : (fin : Option ℕ) (b : Bool) (x : ℕ) → b ≡ is_at fin x → ((f : ℕ) → fin ≡ Some f → x ≤ f) → x ≡ below_limit fin (past_or b x)
limit_past None true x e h = absurd (cc)
limit_past None false x e h = refl
limit_past (Some f) true x e h = let q = equal_of f x (sym e) in omega (arith, q)
limit_past (Some f) false x e h = let q = h f refl in omega (arith, q)

-- the first missing position doesn't pass a FIN
not_past_cases : (c : Bool) (k : Kept) (f : ℕ) → IsKept k → k.from ≤ f → byte_at k f ≡ None → nat_le k.expected f ≡ c → k.expected ≤ f
not_past_cases true k f new low none t = grind (arith, nat_tests)
not_past_cases false k f new low none t =
    let below : f < k.expected = grind (arith, nat_tests) in
    let there : is_some (byte_at k f) ≡ true = new.ready f low below in
    let gone : is_some (byte_at k f) ≡ false = ap is_some none in
    absurd (cc)

not_past : (k : Kept) (f : ℕ) → IsKept k → k.from ≤ f → byte_at k f ≡ None → k.expected ≤ f
not_past k f new low none = not_past_cases (nat_le k.expected f) k f new low none refl

low_old : (old : Option ℕ) (x h low : ℕ) → old ≡ Some h → low ≡ below_limit old x → low ≤ h
low_old old x h low e q =
    let m : low ≡ min h x = q ∙ ap (λ z. below_limit z x) e in omega (arith, m)

most_past : (b : Bool) (y x : ℕ) (fin : Option ℕ) → y ≡ past_or b x → b ≡ is_at fin x → x ≤ 2 ^ 63 → ((f : ℕ) → fin ≡ Some f → f < 2 ^ 63) → y ≤ 2 ^ 63
most_past true y x fin e p h l = let f = l x (at_is fin x (sym p)) in omega (arith, f, e)
most_past false y x fin e p h l = omega (arith, e)

open_past : (b : Bool) (q : Phase) (y : ℕ) (p : Phase) (x : ℕ) → before_fin q ≡ true → before_fin q ≡ before_fin (phase_past b p) → (b ≡ true → before_fin (phase_past b p) ≡ false) → y ≡ past_or b x → x ≡ y
open_past true q y p x w e h o = let z = h refl in absurd (cc)
open_past false q y p x w e h o = sym o

-- what holds of the numbers received, once payload and FIN are heard
pub receives_past : (p q : Phase) (peer_isn : Option ℕ) (taken x y : ℕ) (heard : Bool) (old fin : Option ℕ) (k new : Kept) (records b : Bool) (at : ℕ)
    → states.hears p ≡ true → Receives p peer_isn taken x heard old k → heard ≡ true → IsKept k → IsKept new → new.from ≡ k.from
    → fin ≡ hearing.fin_of old records at → (records ≡ true → (k.expected ≤ at) × (at < 2 ^ 63) × ((z : ℕ) → at ≤ z → byte_at new z ≡ None))
    → ((f z : ℕ) → old ≡ Some f → f ≤ z → byte_at new z ≡ None)
    → b ≡ is_at fin new.expected → q ≡ phase_past b p → y ≡ past_or b new.expected
    → Receives q peer_isn taken y true fin new
receives_past p q peer_isn taken x y heard old fin k new records b at hears r there kept later from f rec clear pass phase over =
    let ph = past_phases b p hears in
    let none : (g z : ℕ) → fin ≡ Some g → g ≤ z → byte_at new z ≡ None =
    λ g z e. fin_cases (λ g. g ≤ z → byte_at new z ≡ None) old records at (λ h e le. clear h z e le) (λ t. (rec t).2 z) g (sym f ∙ e) in
    let low : (g : ℕ) → fin ≡ Some g → k.expected ≤ g =
    λ g e. fin_cases (λ g. k.expected ≤ g) old records at (λ h e. low_old old x h k.expected e r.missing) (λ t. (rec t).0) g (sym f ∙ e) in
    let last : (g : ℕ) → fin ≡ Some g → g < 2 ^ 63 =
    λ g e. fin_cases (λ g. g < 2 ^ 63) old records at r.last (λ t. (rec t).1) g (sym f ∙ e) in
    let high : (g : ℕ) → fin ≡ Some g → new.expected ≤ g =
    λ g e. not_past new g later (let l = low g e in omega (arith, l, from, kept.ordered)) (none g g e (omega arith)) in
    record {
      from = from ∙ r.from;
      missing = limit_past fin b new.expected pass high ∙ ap (λ z. below_limit fin z) (sym over);
      most = most_past b y new.expected fin over pass later.within last;
      same = sym there ∙ r.same;
      unknown = λ w. let u : waits q ≡ false = ap waits phase ∙ ph.0 in absurd (cc);
      untaken = λ w. let u : waits q ≡ false = ap waits phase ∙ ph.0 in absurd (cc);
      empty = λ w z. let u : waits q ≡ false = ap waits phase ∙ ph.0 in absurd (cc);
      known = λ w. sym r.same ∙ there;
      hearing = λ w. open_past b q y p new.expected w (ap before_fin phase) ph.4 over;
      last = last;
      clear = none;
    }

within_of : (b : Bool) → (true && b && not false) ≡ true → b ≡ true
within_of true e = refl
within_of false e = absurd (cc)

never : (b : Bool) → (true && b && not true) ≡ true → ⊥
never true e = absurd (cc)
never false e = absurd (cc)

recorded_says : (flag kept records : Bool) (at x w : ℕ) → records ≡ (flag && hearing.in_range at x (x + w) && not kept) → records ≡ true → (flag ≡ true) × (x ≤ at) × (kept ≡ false)
recorded_says true false records at x w e r = let t : hearing.in_range at x (x + w) ≡ true = within_of (hearing.in_range at x (x + w)) (sym e ∙ r) in (refl, grind (arith, nat_tests, t), refl)
recorded_says true true records at x w e r = let t = never (hearing.in_range at x (x + w)) (sym e ∙ r) in absurd t
recorded_says false kept records at x w e r = absurd (cc)

pub rec_is : (k new : Kept) (d : Segment) (n : ℕ) (kept flag records : Bool) (x w : ℕ) → (((p : ℕ) × (n + length d.payload ≤ p) × IsSome (byte_at new p)) → IsTrue kept) → flag ≡ has FIN d → x ≡ k.expected
    → (has FIN d ≡ true → n + length d.payload < 2 ^ 63) → records ≡ (flag && hearing.in_range (n + length d.payload) x (x + w) && not kept)
    → records ≡ true → (k.expected ≤ n + length d.payload) × (n + length d.payload < 2 ^ 63) × ((z : ℕ) → n + length d.payload ≤ z → byte_at new z ≡ None)
rec_is k new d n kept flag records x w back f e last test r =
    let says = recorded_says flag kept records (n + length d.payload) x w test r in
    (omega (arith, says.1, e), last (sym f ∙ says.0), λ z le. none_of (byte_at new z) (λ h. let t : kept ≡ true = back (z, le, h) in let u = says.2 in absurd (cc)))

-- the same, from what the calls say
pub receives_heard : (e : Endpoint) (d : Segment) (n : ℕ) (q : Phase) (y : ℕ) (x : ℕ) (old fin : Option ℕ) (new : Kept) (records b : Bool)
    → states.hears e.phase ≡ true → is_some e.sequence.received ≡ true → IsKept e.reassembly → IsKept new
    → Shows new e.reassembly.from x (grown e.reassembly n d.payload old) → old ≡ fin_in e.sequence.received
    → fin ≡ hearing.fin_of old records (n + length d.payload)
    → (records ≡ true → (e.reassembly.expected ≤ n + length d.payload) × (n + length d.payload < 2 ^ 63) × ((z : ℕ) → n + length d.payload ≤ z → byte_at new z ≡ None))
    → b ≡ is_at fin new.expected → q ≡ phase_past b e.phase → y ≡ past_or b new.expected
    → Receives q e.peer_isn e.taken y true fin new
receives_heard e d n q y x old fin new records b hears heard kept later shows o f rec pass phase over =
    receives_past e.phase q e.peer_isn e.taken (expected_in e.sequence.received) y (is_some e.sequence.received) (fin_in e.sequence.received) fin e.reassembly new records b (n + length d.payload)
    hears e.receives heard kept later shows.from (f ∙ ap (λ z. hearing.fin_of z records (n + length d.payload)) o) rec
    (λ g z t le. shows.bytes z ∙ grown_clear e.reassembly n d.payload old g z (o ∙ t) le (e.receives.clear g z t le))
    pass phase over
