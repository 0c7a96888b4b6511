-- What an arrival may bring: bytes, a FIN and an acknowledgement of its segment, and the number expected never goes back.
use Rattle.std.proofs.Common.{◌≡◌, ℕ, ◌+◌, ◌-◌, ◌≤◌, ◌<◌, ◌%◌, ◌==◌, Bool, true, false, not, ◌&&◌, nat_lt, nat_le, List, length, slice_get, Option, Some, None, ◌⊎◌, inl, inr, ⊎_elim, if◌then◌else◌, refl, sym, ap, ◌∙◌, arith}
use Rattle.std.specs.Prelude.{⊤}
use Rattle.book_base.specs.declared.address.Pair.{Pair}
use Rattle.book_segments.specs.Meant.{meant}
use Rattle.book_segments.specs.Segments.{Segment, has, segment_length, ACK, FIN, RST, SYN}
use Rattle.book_segments.proofs.Fields.{and_tells, eqb_is, le_is, some_is}
use Rattle.book_endpoint.specs.declared.phase.Phase.{Phase}
use Rattle.book_endpoint.specs.declared.phase.Phase.TheVariants.{Listen, SynSent, SynReceived, Established, TimeWait, Closed}
use Rattle.book_endpoint.specs.States.{EndState, window}
use Rattle.book_segments.specs.Received.{below_limit, keep, first_missing, runs}
use Rattle.book_endpoint.specs.declared.arrival.Arrival.TheVariants.{Challenge, NoAck, Reset}
use Rattle.book_endpoint.specs.Arrivals.{syn_alone, syn_ack_alone}
use Rattle.book_endpoint.specs.Hearing.{Moved, answered, owing, above, in_range, fits_window, rested, finish, past_fin, pass_fin, fin_of, after_own_fin, acked_fin, windowed, acked}
use Rattle.endpoint_steps.specs.Arriving.{reset, heard_runs, hear_data, go_on, acknowledged, ordinary, after_check}
use Rattle.book_base.proofs.TestLaws.{not_false}
use Rattle.law_link.proofs.Moves.{following}
use Rattle.law_link.proofs.Stream.{fm_low, keep-cases}
use Rattle.book_segments.specs.Bytes.{ring}

-- the payload has this byte for this number
abbrev pub Brings : Segment → ℕ → ℕ → ℕ → Type 0
Brings d n p b = (has SYN d ≡ false) × (n ≤ p) × (slice_get d.payload (p - n) ≡ Some b)

-- the segment is a FIN with this number
abbrev pub BringsFin : Segment → ℕ → ℕ → Type 0
BringsFin d n f = (has SYN d ≡ false) × (has FIN d ≡ true) × (f ≡ n + length d.payload)

-- the segment acknowledges this number
abbrev pub BringsAck : Segment → ℕ → Type 0
BringsAck d a = (has SYN d ≡ false) × (has ACK d ≡ true) × (a % ring ≡ d.acknowledgement)

pub record GainsOf (n : ℕ) (d : Segment) (isn new_isn : ℕ) (m new_m : ℕ → Option ℕ) (fin new_fin : Option ℕ) (taken new_taken : List ℕ) (una new_una x new_x : ℕ) : Type 0 where
  pub same_isn : new_isn ≡ isn
  pub bytes : (p b : ℕ) → new_m p ≡ Some b → (m p ≡ Some b) ⊎ Brings d n p b
  pub fins : (f : ℕ) → new_fin ≡ Some f → (fin ≡ Some f) ⊎ BringsFin d n f
  pub acks : (new_una ≡ una) ⊎ ((new_una ≤ new_isn + 1) ⊎ BringsAck d new_una)
  pub keeps_fin : (f : ℕ) → fin ≡ Some f → new_fin ≡ Some f
  pub same_taken : new_taken ≡ taken
  pub up : x ≤ new_x

abbrev pub Gains : ℕ → Segment → EndState → EndState → Type 0
Gains n d s t = GainsOf n d s.isn t.isn s.received t.received s.fin t.fin s.taken t.taken s.una t.una s.expected t.expected

-- an acceptable segment without RST
abbrev unreset : EndState → Segment → ℕ → ℕ → Moved
unreset s d n now =
    if has SYN d then answered (owing s) Challenge
    else (if not (has ACK d) then answered s NoAck else acknowledged s d n now (meant d.acknowledgement s.una) s.phase)

fin_stays : (o : Option ℕ) (b : Bool) (new g : ℕ) → o ≡ Some g → fin_of o b new ≡ Some g
fin_stays (Some f) b new g e = e
fin_stays None b new g e = absurd (cc)

fin_came : (d : Segment) (n : ℕ) (o : Option ℕ) (b : Bool) (f : ℕ) → has SYN d ≡ false → (b ≡ true → has FIN d ≡ true) → f ≡ n + length d.payload → (g : ℕ) → fin_of o b f ≡ Some g
    → (o ≡ Some g) ⊎ BringsFin d n g
fin_came d n (Some a) b f z says is g e = inl e
fin_came d n None true f z says is g e = let same = some_is f g e in inr (z, says refl, sym same ∙ is)
fin_came d n None false f z says is g e = absurd (cc)

pub meant_is : (seq x k : ℕ) → seq < ring → meant seq x ≡ Some k → k % ring ≡ seq
unfolding meant
meant_is seq x k fits e =
    let ahead = (seq + ring - x % ring) % ring in
    by_tests (nat_lt ahead 2147483648) (nat_le (ring - ahead) x) refl e
  where
    by_tests : (b c : Bool) → nat_le (ring - (seq + ring - x % ring) % ring) x ≡ c
        → (if b then Some (x + (seq + ring - x % ring) % ring)
        else (if c then Some (x - (ring - (seq + ring - x % ring) % ring)) else None)) ≡ Some k → k % ring ≡ seq
    by_tests true c low e = let is = some_is (x + (seq + ring - x % ring) % ring) k e in omega arith
    by_tests false true low e =
        let is = some_is (x - (ring - (seq + ring - x % ring) % ring)) k e in
        let le = le_is (ring - (seq + ring - x % ring) % ring) x low in
        omega arith
    by_tests false false low e = absurd (cc)

module _ (n : ℕ) (d : Segment) where
  none : (s : EndState) → Gains n d s s
  none s = record { same_isn = refl; bytes = λ p b e. inl e; fins = λ f e. inl e; keeps_fin = λ f e. e; same_taken = refl; acks = inl refl; up = omega arith }

  then_gains : (s t u : EndState) → Gains n d s t → Gains n d t u → Gains n d s u
  then_gains s t u g h =
      record {
        same_isn = h.same_isn ∙ g.same_isn;
        bytes = λ p b e. ⊎_elim (λ (x : t.received p ≡ Some b). g.bytes p b x) (λ (x : Brings d n p b). inr x) (h.bytes p b e);
        keeps_fin = λ f e. h.keeps_fin f (g.keeps_fin f e);
        same_taken = h.same_taken ∙ g.same_taken;
        fins = λ f e. ⊎_elim (λ (x : t.fin ≡ Some f). g.fins f x) (λ (x : BringsFin d n f). inr x) (h.fins f e);
        acks =
            ⊎_elim
            (λ (x : u.una ≡ t.una).
            ⊎_elim (λ (y : t.una ≡ s.una). inl (x ∙ y))
            (λ (y : (t.una ≤ t.isn + 1) ⊎ BringsAck d t.una).
            inr (⊎_elim (λ (low : t.una ≤ t.isn + 1). let same = h.same_isn in inl (omega arith))
            (λ (b : BringsAck d t.una). inr (b.0, b.1, ap (λ k. k % ring) x ∙ b.2)) y))
            g.acks)
            (λ (x : (u.una ≤ u.isn + 1) ⊎ BringsAck d u.una). inr x)
            h.acks;
        up = (let one = g.up in let two = h.up in omega arith);
      }

  choice : (b : Bool) (s t u : EndState) → (b ≡ true → Gains n d s t) → (b ≡ false → Gains n d s u) → Gains n d s (if b then t else u)
  choice true s t u g h = g refl
  choice false s t u g h = h refl

  either : (b : Bool) (s : EndState) (r q : Moved) → (b ≡ true → Gains n d s r.state) → (b ≡ false → Gains n d s q.state) → Gains n d s (if b then r else q).state
  either true s r q g h = g refl
  either false s r q g h = h refl

  acked_gains : (s : EndState) (a : Option ℕ) → ((k : ℕ) → a ≡ Some k → BringsAck d k) → Gains n d s (acked s a)
  acked_gains s None ack = none s
  acked_gains s (Some a) ack =
      choice (nat_lt s.una a) s (record s { una = a }) s
      (λ e. record { same_isn = refl; bytes = λ p v e. inl e; fins = λ f e. inl e; keeps_fin = λ f e. e; same_taken = refl; acks = inr (inr (ack a refl)); up = omega arith })
      (λ e. none s)

  windowed_gains : (s : EndState) (old : ℕ) (k : ℕ) (a : Option ℕ) → Gains n d s (windowed s old d k a)
  windowed_gains s old k None = none s
  windowed_gains s old k (Some a) = choice _ s (record s { send_window = d.window; wl1 = k; wl2 = a }) s (λ e. none s) (λ e. none s)

  acked_fin_gains : (s : EndState) (a : Option ℕ) → Gains n d s (acked_fin s a)
  acked_fin_gains s a = choice _ s (record s { phase = after_own_fin s.phase }) s (λ e. none s) (λ e. none s)

  rested_gains : (s : EndState) (now : ℕ) (phase : Phase) (o : Option ℕ) → Gains n d s (rested s now phase o)
  rested_gains s now TimeWait None = none s
  rested_gains s now _ _ = none s

  pass_gains : (s : EndState) (f : Option ℕ) → Gains n d s (pass_fin s f)
  pass_gains s None = none s
  pass_gains s (Some f) =
      choice (f == s.expected) s (record s { expected = f + 1; phase = past_fin s.phase }) s
      (λ e. let at = eqb_is f s.expected e in record { same_isn = refl; bytes = λ p v e. inl e; fins = λ f e. inl e; keeps_fin = λ f e. e; same_taken = refl; acks = inl refl; up = omega arith })
      (λ e. none s)

  finish_gains : (s : EndState) (now : ℕ) → Gains n d s (finish s now).state
  finish_gains s now = rested_gains s now s.phase s.deadline

  heard_gains : (s : EndState) (m : ℕ → Option ℕ) (now : ℕ) (b : Bool) → has SYN d ≡ false → ((p v : ℕ) → m p ≡ Some v → (s.received p ≡ Some v) ⊎ Brings d n p v)
      → Gains n d s (heard_runs s m d n now b).state
  heard_gains s m now true z h = none s
  heard_gains s m now false z h =
      let f = n + length d.payload in
      let records = has FIN d && in_range f s.expected (s.expected + window s) && (runs m false f (s.expected + window s - f) == 0) in
      let t : EndState = record s { received = m; fin = fin_of s.fin records f; ack_owed = true; expected = first_missing m s.expected (window s) } in
      let u = pass_fin t t.fin in
      let v = (finish u now).state in
      then_gains s t v
      (record {
        same_isn = refl;
        bytes = h;
        fins = λ g e. fin_came d n s.fin records f z (λ r. (and_tells (has FIN d) (in_range f s.expected (s.expected + window s)) (and_tells (has FIN d && in_range f s.expected (s.expected + window s)) (runs m false f (s.expected + window s - f) == 0) r).0).0) refl g e;
        keeps_fin = λ g e. fin_stays s.fin records f g e;
        same_taken = refl;
        acks = inl refl;
        up = fm_low m s.expected (window s);
      })
      (then_gains t u v (pass_gains t t.fin) (finish_gains u now))

  hear_gains : (s : EndState) (now : ℕ) (b : Bool) → has SYN d ≡ false → Gains n d s (hear_data s d n now b).state
  hear_gains s now false z = finish_gains s now
  hear_gains s now true z =
      heard_gains s (keep s.received (record { number = n; bytes = d.payload }) (record { low = s.expected; high = below_limit s.fin (s.expected + window s) })) now _ z
      (λ p v e. ⊎_elim (λ (a : s.received p ≡ Some v). inl a) (λ (a : (n ≤ p) × (slice_get d.payload (p - n) ≡ Some v)). inr (z, a.0, a.1)) (keep-cases s.received n d.payload s.expected (below_limit s.fin (s.expected + window s)) p v e))

  go_on_gains : (s : EndState) (old : ℕ) (now : ℕ) (a : Option ℕ) → has SYN d ≡ false → Gains n d s (go_on s old d n now a).state
  go_on_gains s old now a z =
      let w = windowed s old d n a in
      let t = acked_fin w a in
      let last = (go_on s old d n now a).state in
      then_gains s w last (windowed_gains s old n a) (then_gains w t last (acked_fin_gains w a) (hear_gains t now _ z))

  acknowledged_gains : (s : EndState) (now : ℕ) (a : Option ℕ) (phase : Phase) → has SYN d ≡ false → ((k : ℕ) → a ≡ Some k → BringsAck d k) → Gains n d s (acknowledged s d n now a phase).state
  acknowledged_gains s now a SynReceived z ack =
      let t : EndState = record (acked s a) { phase = Established } in
      either (above a s.una && not (above a s.next)) s (go_on t s.una d n now a) _
      (λ e. then_gains s t (go_on t s.una d n now a).state (acked_gains s a ack) (go_on_gains t s.una now a z))
      (λ e. none s)
  acknowledged_gains s now a _ z ack =
      either (above a s.next) s _ (go_on (acked s a) s.una d n now a) (λ e. none s)
      (λ e. then_gains s (acked s a) (go_on (acked s a) s.una d n now a).state (acked_gains s a ack) (go_on_gains (acked s a) s.una now a z))

  unreset_gains : (s : EndState) (now : ℕ) → d.acknowledgement < ring → Gains n d s (unreset s d n now).state
  unreset_gains s now fits =
      either (has SYN d) s (answered (owing s) Challenge) (if not (has ACK d) then answered s NoAck else acknowledged s d n now (meant d.acknowledgement s.una) s.phase) (λ e. none s)
      (λ z. either (not (has ACK d)) s (answered s NoAck) (acknowledged s d n now (meant d.acknowledgement s.una) s.phase) (λ e. none s)
      (λ ack. acknowledged_gains s now (meant d.acknowledgement s.una) s.phase z (λ k e. (z, not_false (has ACK d) ack, meant_is d.acknowledgement s.una k fits e))))

  reset_gains : (s : EndState) → Gains n d s (reset s n).state
  reset_gains s = either (n == s.expected) s (answered (record s { phase = Closed }) Reset) (answered (owing s) Challenge) (λ e. none s) (λ e. none s)

  ordinary_gains : (s : EndState) (c : Option ℕ) (now : ℕ) → d.acknowledgement < ring → Gains n d s (ordinary s (following c s) d n now).state
  ordinary_gains s c now fits =
      either (has RST d) s (reset s n) (unreset (following c s) d n now) (λ e. reset_gains s) (λ e. unreset_gains (following c s) now fits)

-- before the peer is heard, nothing is expected
abbrev pub UnheardIn : Phase → EndState → Type 0
UnheardIn Listen s = s.expected ≡ 0
UnheardIn SynSent s = s.expected ≡ 0
UnheardIn _ s = ⊤

pub after_check_gains : (pair : Pair) (s : EndState) (c : Option ℕ) (d : Segment) (n now : ℕ) (phase : Phase) → UnheardIn phase s → d.acknowledgement < ring
    → Gains n d s (after_check pair s (following c s) d n now phase).state
after_check_gains pair s c d n now Listen unheard fits =
    either n d (syn_alone d) s _ _
    (λ e. record { same_isn = refl; bytes = λ p v e. inl e; fins = λ f e. inl e; keeps_fin = λ f e. e; same_taken = refl; acks = inl refl; up = omega arith })
    (λ e. none n d s)
after_check_gains pair s c d n now SynSent unheard fits =
    either n d (not (syn_ack_alone d)) s _ _
    (λ e. none n d s)
    (λ e. either n d (nat_lt s.isn s.next && (d.acknowledgement == (s.isn + 1) % ring)) s _ _
    (λ g. record { same_isn = refl; bytes = λ p v e. inl e; fins = λ f e. inl e; keeps_fin = λ f e. e; same_taken = refl; acks = inr (inl (omega arith)); up = omega arith })
    (λ g. none n d s))
after_check_gains pair s c d n now _ unheard fits =
    either n d (fits_window n (segment_length d) s.expected (window s)) s _ _ (λ e. ordinary_gains n d s c now fits) (λ e. choice n d (has RST d) s s (owing s) (λ e. none n d s) (λ e. none n d s))
