-- The receiving half of a state and its acknowledgements, through each case of an arrival.
use Rattle.std.proofs.Common.{◌≡◌, ℕ, ◌+◌, ◌-◌, ◌%◌, ◌<◌, ◌≤◌, ◌==◌, Bool, true, false, not, ◌&&◌, ◌||◌, nat_lt, nat_le, List, [], ◌∷◌, length, Option, Some, None, ⊎_elim, if◌then◌else◌, refl, sym, ap, ◌∙◌, subst, arith}
use Rattle.std.proofs.lemmas.Bool.Decides.{nat_tests}
use Rattle.book_base.specs.declared.address.Pair.{Pair}
use Rattle.book_segments.specs.Meant.{meant}
use Rattle.book_segments.specs.Segments.{Segment, has, segment_length, ACK, FIN, RST, SYN}
use Rattle.book_segments.proofs.Fields.{and_tells, eqb_is, le_is, lt_is, lt_not, some_is}
use Rattle.book_endpoint.specs.declared.phase.Phase.{Phase}
use Rattle.book_endpoint.specs.declared.phase.Phase.TheVariants.{Listen, SynSent, SynReceived, Established, TimeWait, Closed}
use Rattle.book_endpoint.specs.States.{EndState, first, window, hears}
use Rattle.book_segments.specs.Received.{below_limit, keep, first_missing, runs}
use Rattle.book_endpoint.specs.Arrivals.{syn_alone, syn_ack_alone}
use Rattle.book_endpoint.specs.Hearing.{Moved, owing, above, in_range, fits_window, rested, finish, past_fin, pass_fin, fin_of, after_own_fin, acked_fin, windowed, acked}
use Rattle.endpoint_steps.specs.Arriving.{heard_runs, hear_data, go_on, acknowledged, ordinary, after_check}
use Rattle.book_endpoint.specs.Emissions.{is_silent}
use Rattle.book_base.proofs.TestLaws.{not_true}
use Rattle.law_link.proofs.Phases.{waits, open_now, PhaseKept, own_kept, past_kept, closed_kept, hears_speaks}
use Rattle.law_link.proofs.Sound.{Sound}
use Rattle.law_link.proofs.Moves.{following}
use Rattle.law_link.proofs.Stream.{Stream, room_of, not_some, fm_stop, runs_none, edge, kept, moved, moved_missing, recorded, passed, or_lt}
use Rattle.book_segments.specs.Bytes.{ring}

-- what is known of the peer, and what is acknowledged
pub record EndsOf (phase : Phase) (isn : ℕ) (peer_isn : Option ℕ) (una next : ℕ) (rst : Bool) : Type 0 where
  pub una_low : isn ≤ una
  pub una_high : una ≤ next
  pub begun : open_now phase ≡ true → isn + 1 ≤ una
  pub known : is_silent phase ≡ false → (q : ℕ) × (peer_isn ≡ Some q)
  pub resets : rst ≡ true → (q : ℕ) × (peer_isn ≡ Some q)

-- the receiving half: bytes in order up to the number expected, no byte there, and that number past the FIN once it has come to it
pub record WholeOf (phase : Phase) (isn : ℕ) (peer_isn : Option ℕ) (una next : ℕ) (rst : Bool) (taken : List ℕ) (m : ℕ → Option ℕ) (fin : Option ℕ) (x : ℕ) : Type 0 where
  pub stream : Stream peer_isn taken m fin x
  pub missing : m x ≡ None
  pub moved : (f : ℕ) → fin ≡ Some f → x ≡ f → ⊥
  pub ends : EndsOf phase isn peer_isn una next rst

abbrev pub Whole : EndState → Type 0
Whole s = WholeOf s.phase s.isn s.peer_isn s.una s.next s.rst_owed s.taken s.received s.fin s.expected

ends_phase : (old new : Phase) (isn : ℕ) (peer_isn : Option ℕ) (una next : ℕ) (rst : Bool) → PhaseKept old new → EndsOf old isn peer_isn una next rst → EndsOf new isn peer_isn una next rst
ends_phase old new isn peer_isn una next rst ok h =
    record { una_low = h.una_low; una_high = h.una_high; begun = λ e. h.begun (ok.opens e); known = λ e. h.known (ok.knows e); resets = h.resets }

pub whole_phase : (s : EndState) (new : Phase) → PhaseKept s.phase new → Whole s → Whole (record s { phase = new })
whole_phase s new ok h = record { stream = h.stream; missing = h.missing; moved = h.moved; ends = ends_phase s.phase new s.isn s.peer_isn s.una s.next s.rst_owed ok h.ends }

pick : (b : Bool) (t u : EndState) → (b ≡ true → Whole t) → (b ≡ false → Whole u) → Whole (if b then t else u)
pick true t u f g = f refl
pick false t u f g = g refl

pick_moved : (b : Bool) (t u : Moved) → (b ≡ true → Whole t.state) → (b ≡ false → Whole u.state) → Whole (if b then t else u).state
pick_moved true t u f g = f refl
pick_moved false t u f g = g refl

rested_whole : (s : EndState) (now : ℕ) (phase : Phase) (o : Option ℕ) → Whole s → Whole (rested s now phase o)
rested_whole s now TimeWait None h = h
rested_whole s now _ _ h = h

pub finish_whole : (s : EndState) (now : ℕ) → Whole s → Whole (finish s now).state
finish_whole s now h = rested_whole s now s.phase s.deadline h

-- the bytes are kept, and the number expected moves to the first missing one
pub heard : (o : Option ℕ) (taken : List ℕ) (m : ℕ → Option ℕ) (fin : Option ℕ) (x n : ℕ) (payload : List ℕ) → (q : ℕ) × (o ≡ Some q) → Stream o taken m fin x
    → let new = keep m (record { number = n; bytes = payload }) (record { low = x; high = below_limit fin (x + room_of o taken fin x) }) in
    let y = first_missing new x (room_of o taken fin x) in Stream o taken new fin y × (new y ≡ None)
heard None taken m fin x n payload known h = absurd (cc)
heard (Some q) taken m fin x n payload known h =
    let k = kept q taken m fin x n payload h in
    let new = keep m (record { number = n; bytes = payload }) (record { low = x; high = below_limit fin (x + room_of (Some q) taken fin x) }) in
    (moved q taken new fin x k, moved_missing q taken new fin x k)

-- a FIN is recorded only where no byte stands at or past it
pub fin_whole : (o : Option ℕ) (taken : List ℕ) (m : ℕ → Option ℕ) (fin : Option ℕ) (x y f : ℕ) (b : Bool) → (q : ℕ) × (o ≡ Some q)
    → first o + length taken ≤ below_limit fin x → y ≡ first_missing m x (room_of o taken fin x)
    → (b ≡ true → (x ≤ f) × (f < x + room_of o taken fin x) × (runs m false f (x + room_of o taken fin x - f) ≡ 0))
    → Stream o taken m fin y → Stream o taken m (fin_of fin b f) y
fin_whole None taken m fin x y f b known begun is says h = absurd (cc)
fin_whole (Some q) taken m (Some g) x y f b known begun is says h = h
fin_whole (Some q) taken m None x y f false known begun is says h = h
fin_whole (Some q) taken m None x y f true known begun is says h =
    let r = says refl in
    let w = room_of (Some q) taken None x in
    let low = r.0 in
    let far = edge None (q + 1 + length taken) x begun in
    let none : (p : ℕ) → f ≤ p → m p ≡ None = λ p a.
    ⊎_elim (λ (e : p < x + w). runs_none m f (x + w - f) p r.2 a (omega arith))
    (λ (e : x + w ≤ p). not_some (m p) (λ b is. let top = h.high p b is in absurd (omega arith)))
    (or_lt p (x + w)) in
    let stop = fm_stop m x w f low (none f (omega arith)) in
    recorded q taken m y f (omega arith) none h

-- the number expected moves past the FIN
passed_any : (o : Option ℕ) (taken : List ℕ) (m : ℕ → Option ℕ) (fin : Option ℕ) (x f : ℕ) → fin ≡ Some f → f ≡ x → Stream o taken m fin x → Stream o taken m fin (f + 1)
passed_any None taken m fin x f e same h = let u = h.unknown refl in let none = u.1 in absurd (cc)
passed_any (Some q) taken m None x f e same h = absurd (cc)
passed_any (Some q) taken m (Some g) x f e same h =
    let is : g ≡ f = some_is g f e in
    let at : Stream (Some q) taken m (Some g) g = subst (λ (k : ℕ). Stream (Some q) taken m (Some g) k) (sym (is ∙ same)) h in
    subst (λ (k : ℕ). Stream (Some q) taken m (Some g) (k + 1)) is (passed q taken m g at)

eqb_not : (x y : ℕ) → (x == y) ≡ false → x ≡ y → ⊥
eqb_not x y e f = grind (arith, nat_tests)

pass_if : (t : EndState) (f : ℕ) (b : Bool) → (f == t.expected) ≡ b → t.fin ≡ Some f → Stream t.peer_isn t.taken t.received t.fin t.expected → t.received t.expected ≡ None
    → EndsOf t.phase t.isn t.peer_isn t.una t.next t.rst_owed → Whole (if b then record t { expected = f + 1; phase = past_fin t.phase } else t)
pass_if t f true is e stream missing ends =
    record {
      stream = passed_any t.peer_isn t.taken t.received t.fin t.expected f e (eqb_is f t.expected is) stream;
      missing = stream.fin_none f (f + 1) e (omega arith);
      moved = λ g e2 at. let same : f ≡ g = some_is f g (sym e ∙ e2) in absurd (omega arith);
      ends = ends_phase t.phase (past_fin t.phase) t.isn t.peer_isn t.una t.next t.rst_owed (past_kept t.phase) ends;
    }
pass_if t f false is e stream missing ends =
    record { stream = stream; missing = missing; moved = λ g e2 at. let same : f ≡ g = some_is f g (sym e ∙ e2) in eqb_not f t.expected is (same ∙ sym at); ends = ends }

pub pass_whole : (t : EndState) (o : Option ℕ) → t.fin ≡ o → Stream t.peer_isn t.taken t.received t.fin t.expected → t.received t.expected ≡ None
    → EndsOf t.phase t.isn t.peer_isn t.una t.next t.rst_owed → Whole (pass_fin t o)
pass_whole t None e stream missing ends = record { stream = stream; missing = missing; moved = λ g e2 at. absurd (cc); ends = ends }
pass_whole t (Some f) e stream missing ends = pass_if t f (f == t.expected) refl e stream missing ends

pub record_says : (a b : Bool) (f low high k : ℕ) → (a && in_range f low high && b) ≡ true → b ≡ (k == 0) → (low ≤ f) × (f < high) × (k ≡ 0)
record_says a b f low high k e is =
    let one = and_tells (a && in_range f low high) b e in
    let two = and_tells a (in_range f low high) one.0 in
    let three = and_tells (nat_le low f) (nat_lt f high) two.1 in
    (le_is low f three.0, lt_is f high three.1, eqb_is k 0 (sym is ∙ one.1))

hear_if : (s : EndState) (d : Segment) (n now : ℕ) (b : Bool) → (q : ℕ) × (s.peer_isn ≡ Some q) → Whole s
    → Whole (heard_runs s (keep s.received (record { number = n; bytes = d.payload }) (record { low = s.expected; high = below_limit s.fin (s.expected + window s) })) d n now b).state
hear_if s d n now true known h = h
hear_if s d n now false known h =
    let m = keep s.received (record { number = n; bytes = d.payload }) (record { low = s.expected; high = below_limit s.fin (s.expected + window s) }) in
    let f = n + length d.payload in
    let records = has FIN d && in_range f s.expected (s.expected + window s) && (runs m false f (s.expected + window s - f) == 0) in
    let t : EndState = record s { received = m; fin = fin_of s.fin records f; ack_owed = true; expected = first_missing m s.expected (window s) } in
    let r = heard s.peer_isn s.taken s.received s.fin s.expected n d.payload known h.stream in
    let g = fin_whole s.peer_isn s.taken m s.fin s.expected (first_missing m s.expected (window s)) f records known h.stream.begun refl
    (λ e. record_says (has FIN d) (runs m false f (s.expected + window s - f) == 0) f s.expected (s.expected + window s) (runs m false f (s.expected + window s - f)) e refl) r.0 in
    finish_whole (pass_fin t t.fin) now (pass_whole t t.fin refl g r.1 h.ends)

hear_whole : (s : EndState) (d : Segment) (n now : ℕ) (b : Bool) → (b ≡ true → (q : ℕ) × (s.peer_isn ≡ Some q)) → Whole s → Whole (hear_data s d n now b).state
hear_whole s d n now false known h = finish_whole s now h
hear_whole s d n now true known h = hear_if s d n now _ (known refl) h

pub windowed_whole : (s : EndState) (old : ℕ) (d : Segment) (k : ℕ) (a : Option ℕ) → Whole s → Whole (windowed s old d k a)
windowed_whole s old d k None h = h
windowed_whole s old d k (Some a) h = pick _ (record s { send_window = d.window; wl1 = k; wl2 = a }) s (λ e. h) (λ e. h)

pub acked_fin_whole : (s : EndState) (a : Option ℕ) → Whole s → Whole (acked_fin s a)
acked_fin_whole s a h = pick _ (record s { phase = after_own_fin s.phase }) s (λ e. whole_phase s (after_own_fin s.phase) (own_kept s.phase) h) (λ e. h)

go_on_whole : (s : EndState) (old : ℕ) (d : Segment) (n now : ℕ) (a : Option ℕ) → Whole s → Whole (go_on s old d n now a).state
go_on_whole s old d n now a h =
    let w = windowed s old d n a in
    let t = acked_fin w a in
    let done = acked_fin_whole w a (windowed_whole s old d n a h) in
    hear_whole t d n now _ (λ e. done.ends.known (hears_speaks t.phase (and_tells (hears t.phase) (nat_lt 0 (length d.payload) || has FIN d) e).0)) done

una_whole : (s : EndState) (a : ℕ) → s.una < a → a ≤ s.next → Whole s → Whole (record s { una = a })
una_whole s a more top h =
    let low = h.ends.una_low in
    record { stream = h.stream; missing = h.missing; moved = h.moved; ends = record { una_low = omega arith; una_high = top; begun = λ p. omega arith; known = h.ends.known; resets = h.ends.resets } }

pub acked_whole : (s : EndState) (o : Option ℕ) → above o s.next ≡ false → Whole s → Whole (acked s o)
acked_whole s None e h = h
acked_whole s (Some a) e h = pick (nat_lt s.una a) (record s { una = a }) s (λ up. una_whole s a (lt_is s.una a up) (lt_not s.next a e) h) (λ e. h)

established_whole : (s : EndState) (a : ℕ) (b : Bool) → nat_lt s.una a ≡ true → nat_lt s.next a ≡ false → s.phase ≡ SynReceived → b ≡ true → Whole s
    → Whole (record (if b then record s { una = a } else s) { phase = Established })
established_whole s a false up e is t h = absurd (cc)
established_whole s a true up e is t h =
    let more = lt_is s.una a up in
    let low = h.ends.una_low in
    record {
      stream = h.stream;
      missing = h.missing;
      moved = h.moved;
      ends = record { una_low = omega arith; una_high = lt_not s.next a e; begun = λ p. omega arith; known = λ p. h.ends.known (ap is_silent is); resets = h.ends.resets };
    }

pub established_any : (s : EndState) (o : Option ℕ) → above o s.una ≡ true → above o s.next ≡ false → s.phase ≡ SynReceived → Whole s → Whole (record (acked s o) { phase = Established })
established_any s None up e is h = absurd (cc)
established_any s (Some a) up e is h = established_whole s a (nat_lt s.una a) up e is up h

acknowledged_whole : (s : EndState) (d : Segment) (n now : ℕ) (a : Option ℕ) (phase : Phase) → s.phase ≡ phase → Whole s → Whole (acknowledged s d n now a phase).state
acknowledged_whole s d n now a SynReceived is h =
    pick_moved (above a s.una && not (above a s.next)) _ _
    (λ e.
    let t = and_tells (above a s.una) (not (above a s.next)) e in
    go_on_whole (record (acked s a) { phase = Established }) s.una d n now a (established_any s a t.0 (not_true (above a s.next) t.1) is h))
    (λ e. h)
acknowledged_whole s d n now a _ is h = pick_moved (above a s.next) _ _ (λ e. h) (λ e. go_on_whole (acked s a) s.una d n now a (acked_whole s a e h))

ordinary_whole : (s : EndState) (c : Option ℕ) (d : Segment) (n now : ℕ) → Whole s → Whole (ordinary s (following c s) d n now).state
ordinary_whole s c d n now h =
    pick_moved (has RST d) _ _
    (λ e. pick_moved (n == s.expected) _ _ (λ e. whole_phase s Closed (closed_kept s.phase) h) (λ e. h))
    (λ e. pick_moved (has SYN d) _ _ (λ e. h)
    (λ e. pick_moved (not (has ACK d)) _ _ (λ e. h) (λ e. acknowledged_whole (following c s) d n now (meant d.acknowledgement s.una) s.phase refl h)))

pub fresh : (n : ℕ) (taken : List ℕ) (m : ℕ → Option ℕ) (fin : Option ℕ) → length taken ≡ 0 → fin ≡ None → ((p : ℕ) → m p ≡ None) → Stream (Some n) taken m fin (n + 1)
fresh n (b ∷ taken) m fin none e empty = absurd (cc)
fresh n [] m (Some f) none e empty = absurd (cc)
fresh n [] m None none e empty =
    record {
      begun = omega arith;
      took = refl;
      filled = λ p a b. absurd (omega arith);
      low = λ p b is. let z = empty p in absurd (cc);
      high = λ p b is. let z = empty p in absurd (cc);
      room = omega arith;
      fin_high = λ f is. absurd (cc);
      fin_low = λ f is. absurd (cc);
      fin_none = λ f p is low. empty p;
      unknown = λ is. absurd (cc);
    }

nothing_heard : (taken : List ℕ) (m : ℕ → Option ℕ) (fin : Option ℕ) (x : ℕ) → Stream None taken m fin x → (length taken ≡ 0) × (fin ≡ None) × ((p : ℕ) → m p ≡ None)
nothing_heard taken m fin x h =
    let u = h.unknown refl in
    let x_is = u.0 in
    let begun : 0 + length taken ≤ below_limit None x = subst (λ (o : Option ℕ). 0 + length taken ≤ below_limit o x) u.1 h.begun in
    (omega arith, u.1, u.2)

-- the peer's initial sequence number is learned
learned : (s : EndState) (n una next : ℕ) (phase : Phase) → s.peer_isn ≡ None → Whole s → EndsOf phase s.isn (Some n) una next s.rst_owed
    → WholeOf phase s.isn (Some n) una next s.rst_owed s.taken s.received s.fin (n + 1)
learned s n una next phase none h ends =
    let u = nothing_heard s.taken s.received s.fin s.expected (subst (λ (o : Option ℕ). Stream o s.taken s.received s.fin s.expected) none h.stream) in
    record { stream = fresh n s.taken s.received s.fin u.0 u.1 u.2; missing = u.2 (n + 1); moved = λ f e at. let no_fin = u.1 in absurd (cc); ends = ends }

pub after_check_whole : (pair : Pair) (s : EndState) (c : Option ℕ) (d : Segment) (n now : ℕ) (phase : Phase) → s.phase ≡ phase → Sound s → Whole s
    → Whole (after_check pair s (following c s) d n now phase).state
after_check_whole pair s c d n now Listen is sound h =
    pick_moved (syn_alone d) _ _
    (λ e.
    let v = h.ends in
    learned s n s.una s.next SynReceived (sound.unknown (ap waits is)) h
    (record { una_low = v.una_low; una_high = v.una_high; begun = λ p. absurd (cc); known = λ p. (n, refl); resets = λ p. (n, refl) }))
    (λ e. h)
after_check_whole pair s c d n now SynSent is sound h =
    pick_moved (not (syn_ack_alone d)) _ _ (λ e. h)
    (λ e. pick_moved (nat_lt s.isn s.next && (d.acknowledgement == (s.isn + 1) % ring)) _ _
    (λ g.
    let sent = lt_is s.isn s.next (and_tells (nat_lt s.isn s.next) (d.acknowledgement == (s.isn + 1) % ring) g).0 in
    learned s n (s.isn + 1) s.next Established (sound.unknown (ap waits is)) h
    (record { una_low = omega arith; una_high = omega arith; begun = λ p. omega arith; known = λ p. (n, refl); resets = λ p. (n, refl) }))
    (λ g. h))
after_check_whole pair s c d n now _ is sound h =
    pick_moved (fits_window n (segment_length d) s.expected (window s)) _ _ (λ e. ordinary_whole s c d n now h) (λ e. pick (has RST d) s (owing s) (λ e. h) (λ e. h))
