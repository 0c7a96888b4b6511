-- What a segment without SYN and RST that passed does to an end after the handshake.
use Rattle.std.proofs.Common.{◌≡◌, ℕ, zero, suc, ◌+◌, ◌-◌, ◌<◌, ◌≤◌, ◌==◌, Bool, true, false, not, ◌&&◌, ◌||◌, nat_lt, List, length, Option, Some, None, ◌⊎◌, inl, inr, ⊎_elim, if◌then◌else◌, refl, sym, ap, ◌∙◌, subst, arith}
use Rattle.std.proofs.lemmas.Bool.Decides.{nat_tests}
use Rattle.book_base.specs.declared.address.Pair.{Pair}
use Rattle.book_segments.specs.Meant.{meant}
use Rattle.book_segments.specs.Received.{keep, first_missing, runs, below_limit}
use Rattle.book_segments.specs.Segments.{Segment, has, segment_length, bit_of, FIN, SYN, RST, ACK}
use Rattle.book_segments.proofs.Fields.{lt_is, lt_not, some_is}
use Rattle.book_endpoint.specs.declared.phase.Phase.{Phase}
use Rattle.book_endpoint.specs.declared.phase.Phase.TheVariants.{Listen, SynSent, SynReceived, Established, FinWait1, FinWait2, CloseWait, Closing, LastAck, TimeWait, Closed}
use Rattle.book_endpoint.specs.States.{EndState, first, window, hears}
use Rattle.book_endpoint.specs.Hearing.{Moved, answered, owing, above, in_range, fits_window, rested, finish, past_fin, pass_fin, fin_of, records_fin, after_own_fin, acked_fin, windowed, acked}
use Rattle.endpoint_steps.specs.Arriving.{heard_runs, hear_data, go_on, acknowledged, ordinary, after_check}
use Rattle.book_endpoint.specs.declared.arrival.Arrival.TheVariants.{Window, BadAck}
use Rattle.law_link.proofs.Tests.{choose}
use Rattle.book_base.proofs.TestLaws.{by_bool}
use Rattle.law_link.proofs.Stream.{fm_low, fm_high, fm_stop, not_some}
use Rattle.law_link.proofs.Moves.{following}
use Rattle.law_progress.specs.Progress.{is_open}
use Rattle.law_progress.proofs.Runs.{HasFewRuns, keep_past, none_runs, missing_past, few_past}

-- what an arrival leaves as it was
pub record Frame : Type 0 where
  pub isn : ℕ
  pub peer_isn : Option ℕ
  pub next : ℕ
  pub given : List ℕ
  pub taken : List ℕ
  pub closing : Bool
  pub rst_owed : Bool
  pub mss : ℕ

abbrev pub frame : EndState → Frame
frame s = record { isn = s.isn; peer_isn = s.peer_isn; next = s.next; given = s.given; taken = s.taken; closing = s.closing; rst_owed = s.rst_owed; mss = s.mss }

-- the frame and the receiving half
pub record Core : Type 0 where
  pub frame : Frame
  pub received : ℕ → Option ℕ
  pub fin : Option ℕ
  pub expected : ℕ
  pub ack_owed : Bool

abbrev pub core : EndState → Core
core s = record { frame = frame s; received = s.received; fin = s.fin; expected = s.expected; ack_owed = s.ack_owed }

-- a segment without SYN and RST, with ACK
pub record IsPlain (d : Segment) : Type 0 where
  pub syn : has SYN d ≡ false
  pub rst : has RST d ≡ false
  pub ack : has ACK d ≡ true

-- how many numbers the segment takes
abbrev pub reach : Segment → ℕ
reach d = length d.payload + bit_of (has FIN d)

-- what is known of a peer whose stream ends at g, and of a piece of it at n, where it is due
pub record Due (s : EndState) (d : Segment) (n g : ℕ) : Type 0 where
  pub few : HasFewRuns s.received s.expected
  pub at : n ≤ s.expected
  pub some : 0 < reach d
  pub under : n + length d.payload ≤ g
  pub fin_at : has FIN d ≡ true → n + length d.payload ≡ g
  pub ends : (f : ℕ) → s.fin ≡ Some f → f ≡ g
  pub below : (p b : ℕ) → s.received p ≡ Some b → p < g
  pub fits : n + reach d ≤ s.expected + window s
  pub hearing : hears s.phase ≡ true → s.expected ≤ g
  pub past : hears s.phase ≡ false → s.expected ≡ g + 1

-- what hearing of a payload and FIN at a number does
pub record Hears (s t : EndState) (d : Segment) (n : ℕ) : Type 0 where
  pub frame_is : frame t ≡ frame s
  pub una : t.una ≡ s.una
  pub opened : is_open s.phase ≡ true → is_open t.phase ≡ true
  pub shut : s.phase ≡ Closed → t.phase ≡ Closed
  pub up : s.expected ≤ t.expected
  pub owed : s.ack_owed ≡ true → t.ack_owed ≡ true

-- ---- phases

pub rested_core : (s : EndState) (now : ℕ) (phase : Phase) (o : Option ℕ) → (core (rested s now phase o) ≡ core s) × ((rested s now phase o).una ≡ s.una) × ((rested s now phase o).phase ≡ s.phase)
rested_core s now TimeWait None = (refl, refl, refl)
rested_core s now _ _ = (refl, refl, refl)

past_open : (phase : Phase) → is_open phase ≡ true → is_open (past_fin phase) ≡ true
past_open Listen o = absurd (cc)
past_open SynSent o = absurd (cc)
past_open SynReceived o = absurd (cc)
past_open Closed o = absurd (cc)
past_open Established o = refl
past_open CloseWait o = refl
past_open FinWait1 o = refl
past_open Closing o = refl
past_open LastAck o = refl
past_open FinWait2 o = refl
past_open TimeWait o = refl

-- the own FIN acknowledged: the phase is open, or it was LAST-ACK
own_open : (phase : Phase) → is_open phase ≡ true → (is_open (after_own_fin phase) ≡ true) ⊎ (phase ≡ LastAck)
own_open Listen o = absurd (cc)
own_open SynSent o = absurd (cc)
own_open SynReceived o = absurd (cc)
own_open Closed o = absurd (cc)
own_open Established o = inl refl
own_open CloseWait o = inl refl
own_open FinWait1 o = inl refl
own_open Closing o = inl refl
own_open LastAck o = inr refl
own_open FinWait2 o = inl refl
own_open TimeWait o = inl refl

own_hears : (phase : Phase) → hears (after_own_fin phase) ≡ hears phase
own_hears Listen = refl
own_hears SynSent = refl
own_hears SynReceived = refl
own_hears Closed = refl
own_hears Established = refl
own_hears CloseWait = refl
own_hears FinWait1 = refl
own_hears Closing = refl
own_hears LastAck = refl
own_hears FinWait2 = refl
own_hears TimeWait = refl

-- ---- passing the FIN

module _ (s : EndState) where
  pass_if : (f : ℕ) (b : Bool) → (frame (if b then record s { expected = f + 1; phase = past_fin s.phase } else s) ≡ frame s)
      × ((if b then record s { expected = f + 1; phase = past_fin s.phase } else s).una ≡ s.una)
      × ((if b then record s { expected = f + 1; phase = past_fin s.phase } else s).ack_owed ≡ s.ack_owed)
      × (is_open s.phase ≡ true → is_open (if b then record s { expected = f + 1; phase = past_fin s.phase } else s).phase ≡ true)
      × (s.phase ≡ Closed → (if b then record s { expected = f + 1; phase = past_fin s.phase } else s).phase ≡ Closed)
  pass_if f true = (refl, refl, refl, past_open s.phase, λ e. ap past_fin e)
  pass_if f false = (refl, refl, refl, λ o. o, λ e. e)

  pass_up_if : (f : ℕ) (b : Bool) → (f == s.expected) ≡ b → s.expected ≤ (if b then record s { expected = f + 1; phase = past_fin s.phase } else s).expected
  pass_up_if f true e = grind (arith, nat_tests)
  pass_up_if f false e = omega arith

  pass_here_if : (f : ℕ) (b : Bool) → (f == s.expected) ≡ b → s.expected ≡ f → f + 1 ≤ (if b then record s { expected = f + 1; phase = past_fin s.phase } else s).expected
  pass_here_if f true e at = omega arith
  pass_here_if f false e at = absurd (grind (arith, nat_tests))

  pass_all : (o : Option ℕ) → (frame (pass_fin s o) ≡ frame s) × ((pass_fin s o).una ≡ s.una) × ((pass_fin s o).ack_owed ≡ s.ack_owed) × (is_open s.phase ≡ true → is_open (pass_fin s o).phase ≡ true)
      × (s.phase ≡ Closed → (pass_fin s o).phase ≡ Closed)
  pass_all None = (refl, refl, refl, λ o. o, λ e. e)
  pass_all (Some f) = pass_if f (f == s.expected)

  pass_up : (o : Option ℕ) → s.expected ≤ (pass_fin s o).expected
  pass_up None = omega arith
  pass_up (Some f) = pass_up_if f (f == s.expected) refl

  pass_here : (o : Option ℕ) (f : ℕ) → o ≡ Some f → s.expected ≡ f → f + 1 ≤ (pass_fin s o).expected
  pass_here None f e at = absurd (cc)
  pass_here (Some g) f e at =
      let same : g ≡ f = some_is g f e in
      let r = pass_here_if g (g == s.expected) refl (omega arith) in
      omega arith

-- ---- the data

test_false : (x : ℕ) → x ≤ 64 → nat_lt 64 x ≡ true → ⊥
test_false x h t = let more = lt_is 64 x t in absurd (omega arith)

limit_high : (o : Option ℕ) (g high k : ℕ) → ((f : ℕ) → o ≡ Some f → f ≡ g) → k ≤ g → k ≤ high → k ≤ below_limit o high
limit_high None g high k h a b = b
limit_high (Some f) g high k h a b = let is = h f refl in omega arith

fin_now : (o : Option ℕ) (g : ℕ) (b : Bool) → ((f : ℕ) → o ≡ Some f → f ≡ g) → b ≡ true → fin_of o b g ≡ Some g
fin_now (Some f) g b h e = ap (λ (k : ℕ). Some k) (h f refl)
fin_now None g true h e = refl
fin_now None g false h e = absurd (cc)

all_on : (a b c : Bool) → a ≡ true → b ≡ true → c ≡ true → (a && b && c) ≡ true
all_on a b c e f g = grind arith

module _ (s : EndState) (d : Segment) (n now : ℕ) where
  -- the bytes are kept, or too many runs would arise
  heard_if : (b : Bool) → Hears s (heard_runs s (keep s.received (record { number = n; bytes = d.payload }) (record { low = s.expected; high = below_limit s.fin (s.expected + window s) })) d n now b).state d n
  heard_if true = record { frame_is = refl; una = refl; opened = λ o. o; shut = λ e. e; up = omega arith; owed = λ e. refl }
  heard_if false =
      let m = keep s.received (record { number = n; bytes = d.payload }) (record { low = s.expected; high = below_limit s.fin (s.expected + window s) }) in
      let f = n + length d.payload in
      let y = first_missing m s.expected (window s) in
      let t : EndState = record s { received = m; fin = fin_of s.fin (records_fin s m d f) f; ack_owed = true; expected = y } in
      let u = pass_fin t t.fin in
      let p = pass_all t t.fin in
      let up = pass_up t t.fin in
      let r = rested_core u now u.phase u.deadline in
      let low = fm_low m s.expected (window s) in
      let x : (rested u now u.phase u.deadline).expected ≡ u.expected = ap (λ (c : Core). c.expected) r.0 in
      record {
        frame_is = ap (λ (c : Core). c.frame) r.0 ∙ p.0;
        una = r.1 ∙ p.1;
        opened = λ o. ap is_open r.2 ∙ p.3 o;
        shut = λ e. r.2 ∙ p.4 e;
        up = omega arith;
        owed = λ e. ap (λ (c : Core). c.ack_owed) r.0 ∙ p.2;
      }

  heard_owed : (b : Bool) → (heard_runs s (keep s.received (record { number = n; bytes = d.payload }) (record { low = s.expected; high = below_limit s.fin (s.expected + window s) })) d n now b).state.ack_owed ≡ true
  heard_owed true = refl
  heard_owed false =
      let m = keep s.received (record { number = n; bytes = d.payload }) (record { low = s.expected; high = below_limit s.fin (s.expected + window s) }) in
      let f = n + length d.payload in
      let t : EndState = record s { received = m; fin = fin_of s.fin (records_fin s m d f) f; ack_owed = true; expected = first_missing m s.expected (window s) } in
      let u = pass_fin t t.fin in
      ap (λ (c : Core). c.ack_owed) (rested_core u now u.phase u.deadline).0 ∙ (pass_all t t.fin).2

  -- a piece that is due moves the number expected past it
  heard_moves : (g : ℕ) → Due s d n g → s.expected ≤ g → (b : Bool)
      → nat_lt 64 (runs (keep s.received (record { number = n; bytes = d.payload }) (record { low = s.expected; high = below_limit s.fin (s.expected + window s) })) false (first_missing (keep s.received (record { number = n; bytes = d.payload }) (record { low = s.expected; high = below_limit s.fin (s.expected + window s) })) s.expected (window s)) (s.expected + window s - first_missing (keep s.received (record { number = n; bytes = d.payload }) (record { low = s.expected; high = below_limit s.fin (s.expected + window s) })) s.expected (window s))) ≡ b
      → n + reach d ≤ (heard_runs s (keep s.received (record { number = n; bytes = d.payload }) (record { low = s.expected; high = below_limit s.fin (s.expected + window s) })) d n now b).state.expected
  heard_moves g h inside true test =
      let top = below_limit s.fin (s.expected + window s) in
      let m = keep s.received (record { number = n; bytes = d.payload }) (record { low = s.expected; high = top }) in
      let fits = h.fits in
      let wide = limit_high s.fin g (s.expected + window s) (n + length d.payload) h.ends h.under (omega arith) in
      let high = fm_high m s.expected (window s) in
      absurd (test_false _ (few_past s.received n d.payload s.expected (window s) top h.at (omega arith) wide h.few (s.expected + window s - first_missing m s.expected (window s)) (omega arith)) test)
  heard_moves g h inside false test =
      let top = below_limit s.fin (s.expected + window s) in
      let m = keep s.received (record { number = n; bytes = d.payload }) (record { low = s.expected; high = top }) in
      let f = n + length d.payload in
      let w = window s in
      let y = first_missing m s.expected w in
      let records = records_fin s m d f in
      let t : EndState = record s { received = m; fin = fin_of s.fin records f; ack_owed = true; expected = y } in
      let u = pass_fin t t.fin in
      let fits = h.fits in
      let wide = limit_high s.fin g (s.expected + w) f h.ends h.under (omega arith) in
      let past : f ≤ y = missing_past s.received n d.payload s.expected w top h.at (omega arith) wide in
      let x : (rested u now u.phase u.deadline).expected ≡ u.expected = ap (λ (c : Core). c.expected) (rested_core u now u.phase u.deadline).0 in
      let up = pass_up t t.fin in
      by_bool (n + reach d ≤ (finish u now).state.expected) (has FIN d)
      (λ on.
      let at : f ≡ g = h.fin_at on in
      let none : (j : ℕ) → f ≤ j → m j ≡ None = λ j low.
      keep_past s.received n d.payload s.expected top j low ∙ not_some (s.received j) (λ b is. let under = h.below j b is in absurd (omega arith)) in
      let stop : y ≤ f = fm_stop m s.expected w f (omega arith) (none f (omega arith)) in
      let one : bit_of (has FIN d) ≡ 1 = ap bit_of on in
      let no_runs : runs m false f (s.expected + w - f) ≤ 0 = none_runs m false f (s.expected + w - f) none in
      let zero_runs : (runs m false f (s.expected + w - f) == 0) ≡ true = grind (arith, nat_tests) in
      let in_window : in_range f s.expected (s.expected + w) ≡ true = grind (arith, nat_tests) in
      let recorded : records ≡ true = all_on (has FIN d) (in_range f s.expected (s.expected + w)) (runs m false f (s.expected + w - f) == 0) on in_window zero_runs in
      let fin : t.fin ≡ Some f = fin_now s.fin f records (λ k is. h.ends k is ∙ sym at) recorded in
      let passed = pass_here t t.fin f fin (omega arith) in
      omega arith)
      (λ off.
      let zero_bit : bit_of (has FIN d) ≡ 0 = ap bit_of off in
      omega arith)

  hear_hears : (b : Bool) → Hears s (hear_data s d n now b).state d n
  hear_hears true = heard_if _
  hear_hears false =
      let r = rested_core s now s.phase s.deadline in
      let x : (rested s now s.phase s.deadline).expected ≡ s.expected = ap (λ (c : Core). c.expected) r.0 in
      record { frame_is = ap (λ (c : Core). c.frame) r.0; una = r.1; opened = λ o. ap is_open r.2 ∙ o; shut = λ e. r.2 ∙ e; up = omega arith; owed = λ e. ap (λ (c : Core). c.ack_owed) r.0 ∙ e }

  some_data : 0 < reach d → (nat_lt 0 (length d.payload) || has FIN d) ≡ true
  some_data some = either (length d.payload) (has FIN d) some
    where
      either : (l : ℕ) (b : Bool) → 0 < l + bit_of b → (nat_lt 0 l || b) ≡ true
      either l true h = or_true (nat_lt 0 l)
        where
          or_true : (a : Bool) → (a || true) ≡ true
          or_true true = refl
          or_true false = refl
      either zero false h = absurd (omega arith)
      either (suc l) false h = let one : nat_lt 0 (suc l) ≡ true = grind (arith, nat_tests) in ap (λ (a : Bool). a || false) one

  -- what is heard in a phase that hears
  hear_moves : (g : ℕ) → Due s d n g → hears s.phase ≡ true → (b : Bool) → (hears s.phase && (nat_lt 0 (length d.payload) || has FIN d)) ≡ b
      → ((hear_data s d n now b).state.ack_owed ≡ true) × (n + reach d ≤ (hear_data s d n now b).state.expected)
  hear_moves g h on true test = (heard_owed _, heard_moves g h (h.hearing on) _ refl)
  hear_moves g h on false test = absurd (never (hears s.phase) (nat_lt 0 (length d.payload) || has FIN d) on (some_data h.some) test)
    where
      never : (a b : Bool) → a ≡ true → b ≡ true → (a && b) ≡ false → ⊥
      never true b e f g = absurd (cc)
      never false b e f g = absurd (cc)

-- ---- the acknowledgement and the window

pub acked_core : (s : EndState) (a : ℕ) → (core (acked s (Some a)) ≡ core s) × ((acked s (Some a)).phase ≡ s.phase)
acked_core s a = choose (λ (t : EndState). (core t ≡ core s) × (t.phase ≡ s.phase)) (nat_lt s.una a) (record s { una = a }) s (λ e. (refl, refl)) (λ e. (refl, refl))

pub acked_una : (s : EndState) (a : ℕ) → s.una ≤ a → (acked s (Some a)).una ≡ a
acked_una s a low = choose (λ (t : EndState). t.una ≡ a) (nat_lt s.una a) (record s { una = a }) s (λ e. refl) (λ e. let high = lt_not s.una a e in omega arith)

pub windowed_core : (s : EndState) (old : ℕ) (d : Segment) (n a : ℕ) → (core (windowed s old d n (Some a)) ≡ core s) × ((windowed s old d n (Some a)).una ≡ s.una) × ((windowed s old d n (Some a)).phase ≡ s.phase)
windowed_core s old d n a =
    choose (λ (t : EndState). (core t ≡ core s) × (t.una ≡ s.una) × (t.phase ≡ s.phase)) _ (record s { send_window = d.window; wl1 = n; wl2 = a }) s (λ e. (refl, refl, refl)) (λ e. (refl, refl, refl))

pub fin_acked_core : (s : EndState) (a : ℕ) → (core (acked_fin s (Some a)) ≡ core s) × ((acked_fin s (Some a)).una ≡ s.una) × (hears (acked_fin s (Some a)).phase ≡ hears s.phase)
    × (is_open s.phase ≡ true → (is_open (acked_fin s (Some a)).phase ≡ true) ⊎ ((s.phase ≡ LastAck) × (s.isn + 1 + length s.given < a) × ((acked_fin s (Some a)).phase ≡ Closed)))
fin_acked_core s a =
    choose (λ (t : EndState). (core t ≡ core s) × (t.una ≡ s.una) × (hears t.phase ≡ hears s.phase) × (is_open s.phase ≡ true → (is_open t.phase ≡ true) ⊎ ((s.phase ≡ LastAck) × (s.isn + 1 + length s.given < a) × (t.phase ≡ Closed))))
    (nat_lt (s.isn + 1 + length s.given) a) (record s { phase = after_own_fin s.phase }) s
    (λ e. (refl, refl, own_hears s.phase, λ o. ⊎_elim (λ (x : is_open (after_own_fin s.phase) ≡ true). inl x) (λ (x : s.phase ≡ LastAck). inr (x, lt_is (s.isn + 1 + length s.given) a e, ap after_own_fin x)) (own_open s.phase o)))
    (λ e. (refl, refl, refl, λ o. inl o))

-- ---- the arrival

-- what an arrival does to an open end
pub record Effect (s t : EndState) (d : Segment) (n a : ℕ) : Type 0 where
  pub frame_is : frame t ≡ frame s
  pub una : s.una ≤ t.una
  pub opened : (is_open t.phase ≡ true) ⊎ ((s.phase ≡ LastAck) × (s.isn + 1 + length s.given < t.una) × (t.phase ≡ Closed) × (t.una ≡ a))
  pub heard : fits_window n (segment_length d) s.expected (window s) ≡ true → t.una ≡ a
  pub up : s.expected ≤ t.expected
  pub owed : s.ack_owed ≡ true → t.ack_owed ≡ true
  pub moved : (g : ℕ) → Due s d n g → 0 < window s → (t.ack_owed ≡ true) × (n + reach d ≤ t.expected)

-- the last number of a segment that isn't acceptable lies before the number expected
before_window : (n len x w : ℕ) → fits_window n len x w ≡ false → 0 < len → n ≤ x → n + len ≤ x + w → 0 < w → n + len ≤ x
before_window n zero x w miss some low fits wide = absurd (omega arith)
before_window n (suc l) x w miss some low fits wide = grind (arith, nat_tests)

-- the first number of a segment that is acceptable isn't past it
after_window : (n len x w : ℕ) → fits_window n len x w ≡ true → 0 < len → 0 < w → n ≤ x → x < n + len
after_window n zero x w fits some wide low = absurd (omega arith)
after_window n (suc l) x w fits some wide low = grind (arith, nat_tests)

plain_length : (d : Segment) → IsPlain d → segment_length d ≡ reach d
plain_length d plain = let zero_syn : bit_of (has SYN d) ≡ 0 = ap bit_of plain.syn in omega arith

due_core : (s u : EndState) (d : Segment) (n g : ℕ) → core u ≡ core s → hears u.phase ≡ hears s.phase → Due s d n g → Due u d n g
due_core s u d n g e same h =
    let x : u.expected ≡ s.expected = ap (λ (c : Core). c.expected) e in
    let win : window u ≡ window s = ap (λ (c : Core). 65535 - (below_limit c.fin c.expected - (first c.frame.peer_isn + length c.frame.taken))) e in
    let at = h.at in
    let fits = h.fits in
    record {
      few = subst (λ (c : Core). HasFewRuns c.received c.expected) (sym e) h.few;
      at = omega arith;
      some = h.some;
      under = h.under;
      fin_at = h.fin_at;
      ends = λ f is. h.ends f (sym (ap (λ (c : Core). c.fin) e) ∙ is);
      below = λ p b is. h.below p b (sym (ap (λ (c : Core). c.received p) e) ∙ is);
      fits = omega arith;
      hearing = λ on. let low = h.hearing (sym same ∙ on) in omega arith;
      past = λ off. let is = h.past (sym same ∙ off) in omega arith;
    }

pub go_on_effect : (s u : EndState) (d : Segment) (n now a old : ℕ) → IsPlain d → is_open s.phase ≡ true → s.una ≤ a → core u ≡ core s → u.una ≡ a → u.phase ≡ s.phase → fits_window n (segment_length d) s.expected (window s) ≡ true
    → Effect s (go_on u old d n now (Some a)).state d n a
go_on_effect s u d n now a old plain awake low like una phase fits =
    let v = windowed u old d n (Some a) in
    let t = acked_fin v (Some a) in
    let one = windowed_core u old d n a in
    let two = fin_acked_core v a in
    let v_phase : v.phase ≡ s.phase = one.2 ∙ phase in
    let v_core : core v ≡ core s = one.0 ∙ like in
    let t_core : core t ≡ core s = two.0 ∙ v_core in
    let t_hears : hears t.phase ≡ hears s.phase = two.2 ∙ ap hears v_phase in
    let h = hear_hears t d n now (hears t.phase && (nat_lt 0 (length d.payload) || has FIN d)) in
    let t_una : t.una ≡ a = two.1 ∙ one.1 ∙ una in
    let h_una = h.una in
    let x : t.expected ≡ s.expected = ap (λ (c : Core). c.expected) t_core in
    let up = h.up in
    let isn : v.isn ≡ s.isn = ap (λ (c : Core). c.frame.isn) v_core in
    let given : length v.given ≡ length s.given = ap (λ (c : Core). length c.frame.given) v_core in
    let long = plain_length d plain in
    record {
      frame_is = h.frame_is ∙ ap (λ (c : Core). c.frame) t_core;
      una = omega arith;
      opened = ⊎_elim (λ (o : is_open t.phase ≡ true). inl (h.opened o))
          (λ (o : (v.phase ≡ LastAck) × (v.isn + 1 + length v.given < a) × (t.phase ≡ Closed)). let more = o.1 in inr (sym v_phase ∙ o.0, omega arith, h.shut o.2, h.una ∙ t_una)) (two.3 (ap is_open v_phase ∙ awake));
      heard = λ e. h.una ∙ t_una;
      up = omega arith;
      owed = λ e. h.owed (ap (λ (c : Core). c.ack_owed) t_core ∙ e);
      moved = λ g due wide.
          by_bool (((hear_data t d n now (hears t.phase && (nat_lt 0 (length d.payload) || has FIN d))).state.ack_owed ≡ true) × (n + reach d ≤ (hear_data t d n now (hears t.phase && (nat_lt 0 (length d.payload) || has FIN d))).state.expected)) (hears t.phase)
          (λ on. hear_moves t d n now g (due_core s t d n g t_core t_hears due) on _ refl)
          (λ off.
          let is = due.past (sym t_hears ∙ off) in
          let at = due.at in
          let under = due.under in
          let bit = bit_low (has FIN d) in
          let some = due.some in
          let inside = after_window n (segment_length d) s.expected (window s) fits (omega arith) wide at in
          absurd (omega arith));
    }
  where
    bit_low : (b : Bool) → bit_of b ≤ 1
    bit_low true = omega arith
    bit_low false = omega arith

outside_effect : (s : EndState) (d : Segment) (n a : ℕ) → IsPlain d → is_open s.phase ≡ true → fits_window n (segment_length d) s.expected (window s) ≡ false
    → Effect s (if has RST d then s else owing s) d n a
outside_effect s d n a plain awake miss =
    let long = plain_length d plain in
    let goal : Effect s (owing s) d n a = record {
      frame_is = refl;
      una = omega arith;
      opened = inl awake;
      heard = λ e. absurd (cc);
      up = omega arith;
      owed = λ e. refl;
      moved = λ g due wide. (refl, before_window n (reach d) s.expected (window s) (subst (λ (k : ℕ). fits_window n k s.expected (window s) ≡ false) long miss) due.some due.at due.fits wide);
    } in
    subst (λ (b : Bool). Effect s (if b then s else owing s) d n a) (sym plain.rst) goal

later_phase : (s : EndState) (d : Segment) (n now : ℕ) (a : Option ℕ) (phase : Phase) → is_open phase ≡ true → (P : Moved → Type 0) → P (if above a s.next then answered (owing s) BadAck else go_on (acked s a) s.una d n now a) → P (acknowledged s d n now a phase)
later_phase s d n now a Listen o P h = absurd (cc)
later_phase s d n now a SynSent o P h = absurd (cc)
later_phase s d n now a SynReceived o P h = absurd (cc)
later_phase s d n now a Closed o P h = absurd (cc)
later_phase s d n now a Established o P h = h
later_phase s d n now a CloseWait o P h = h
later_phase s d n now a FinWait1 o P h = h
later_phase s d n now a Closing o P h = h
later_phase s d n now a LastAck o P h = h
later_phase s d n now a FinWait2 o P h = h
later_phase s d n now a TimeWait o P h = h

-- an open end hears a segment whose acknowledgement means this number
ordinary_effect : (s : EndState) (c : Option ℕ) (d : Segment) (n now a : ℕ) → IsPlain d → is_open s.phase ≡ true → s.una ≤ a → a ≤ s.next → meant d.acknowledgement s.una ≡ Some a → fits_window n (segment_length d) s.expected (window s) ≡ true
    → Effect s (ordinary s (following c s) d n now).state d n a
ordinary_effect s c d n now a plain awake low high means fits =
    let f = following c s in
    let E : Moved → Type 0 = λ m. Effect s m.state d n a in
    let test : nat_lt s.next a ≡ false = grind (arith, nat_tests) in
    choose E (has RST d) _ _ (λ e. let miss = plain.rst in absurd (cc)) (λ e1.
    choose E (has SYN d) _ _ (λ e. let miss = plain.syn in absurd (cc)) (λ e2.
    choose E (not (has ACK d)) _ _ (λ e. absurd (not_both (has ACK d) plain.ack e)) (λ e3.
    subst (λ (o : Option ℕ). E (acknowledged f d n now o f.phase)) (sym means)
    (later_phase f d n now (Some a) f.phase awake E
    (choose E (nat_lt s.next a) _ _ (λ e. absurd (cc)) (λ e4.
    go_on_effect s (acked f (Some a)) d n now a f.una plain awake low (acked_core f a).0 (acked_una f a low) (acked_core f a).1 fits))))))
  where
    not_both : (b : Bool) → b ≡ true → not b ≡ true → ⊥
    not_both true e g = absurd (cc)
    not_both false e g = absurd (cc)

pub checked_phase : (pair : Pair) (s f : EndState) (d : Segment) (n now : ℕ) (phase : Phase) → is_open phase ≡ true → (P : Moved → Type 0)
    → P (if fits_window n (segment_length d) s.expected (window s) then ordinary s f d n now else answered (if has RST d then s else owing s) Window) → P (after_check pair s f d n now phase)
checked_phase pair s f d n now Listen o P h = absurd (cc)
checked_phase pair s f d n now SynSent o P h = absurd (cc)
checked_phase pair s f d n now SynReceived o P h = absurd (cc)
checked_phase pair s f d n now Closed o P h = absurd (cc)
checked_phase pair s f d n now Established o P h = h
checked_phase pair s f d n now CloseWait o P h = h
checked_phase pair s f d n now FinWait1 o P h = h
checked_phase pair s f d n now Closing o P h = h
checked_phase pair s f d n now LastAck o P h = h
checked_phase pair s f d n now FinWait2 o P h = h
checked_phase pair s f d n now TimeWait o P h = h

pub after_check_effect : (pair : Pair) (s : EndState) (c : Option ℕ) (d : Segment) (n now a : ℕ) → IsPlain d → is_open s.phase ≡ true → s.una ≤ a → a ≤ s.next → meant d.acknowledgement s.una ≡ Some a
    → Effect s (after_check pair s (following c s) d n now s.phase).state d n a
after_check_effect pair s c d n now a plain awake low high means =
    let E : Moved → Type 0 = λ m. Effect s m.state d n a in
    checked_phase pair s (following c s) d n now s.phase awake E
    (choose E (fits_window n (segment_length d) s.expected (window s)) (ordinary s (following c s) d n now) (answered (if has RST d then s else owing s) Window)
    (λ e. ordinary_effect s c d n now a plain awake low high means e) (λ e. outside_effect s d n a plain awake e))
