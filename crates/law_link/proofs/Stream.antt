-- The receiving half of a session: what holds of it, and that an arrival keeps it.
use Rattle.std.proofs.Common.{◌≡◌, ℕ, zero, suc, ◌+◌, ◌-◌, ◌<◌, ◌≤◌, Bool, true, false, not, ◌&&◌, nat_lt, nat_le, List, length, slice_get, Option, Some, None, ◌⊎◌, inl, inr, ⊎_elim, if◌then◌else◌, refl, sym, ap, ◌∙◌, subst, arith}
use Rattle.std.specs.Prelude.{is_some}
use Rattle.std.proofs.lemmas.Bool.Decides.{nat_tests}
use Rattle.book_segments.proofs.Fields.{and_tells, le_is, lt_is, some_is}
use Rattle.book_endpoint.specs.States.{first}
use Rattle.book_segments.specs.Received.{below_limit, bytes_from, first_known, keep, first_missing, runs}
use Rattle.law_link.proofs.Lists.{same-bytes_from}

pub or_lt : (p x : ℕ) → (p < x) ⊎ (x ≤ p)
or_lt p x = grind arith

first_known-cases : (o : Option ℕ) (t : Bool) (c : Option ℕ) (b : ℕ) → first_known o (if t then c else None) ≡ Some b → (o ≡ Some b) ⊎ ((t ≡ true) × (c ≡ Some b))
first_known-cases (Some a) t c b e = inl e
first_known-cases None true c b e = inr (refl, e)
first_known-cases None false c b e = absurd (cc)

last_is : (low high n p : ℕ) → (nat_le low p && nat_lt p high && nat_le n p) ≡ true → n ≤ p
last_is low high n p e = grind (arith, nat_tests)

pub keep-cases : (m : ℕ → Option ℕ) (n : ℕ) (payload : List ℕ) (low high p b : ℕ) → keep m (record { number = n; bytes = payload }) (record { low = low; high = high }) p ≡ Some b
    → (m p ≡ Some b) ⊎ ((n ≤ p) × (slice_get payload (p - n) ≡ Some b))
unfolding keep
keep-cases m n payload low high p b e =
    ⊎_elim (λ (x : m p ≡ Some b). inl x)
    (λ (x : ((nat_le low p && nat_lt p high && nat_le n p) ≡ true) × (slice_get payload (p - n) ≡ Some b)). inr (last_is low high n p x.0, x.1))
    (first_known-cases (m p) (nat_le low p && nat_lt p high && nat_le n p) (slice_get payload (p - n)) b e)

keep-old : (m : ℕ → Option ℕ) (n : ℕ) (payload : List ℕ) (low high p b : ℕ) → m p ≡ Some b → keep m (record { number = n; bytes = payload }) (record { low = low; high = high }) p ≡ Some b
unfolding keep
keep-old m n payload low high p b e = rw e

-- what holds of the bytes that a session received, of its FIN, and of the number expected, up to which they stand in order
pub record Stream (peer_isn : Option ℕ) (taken : List ℕ) (m : ℕ → Option ℕ) (fin : Option ℕ) (x : ℕ) : Type 0 where
  pub begun : first peer_isn + length taken ≤ below_limit fin x
  pub took : taken ≡ bytes_from m (first peer_isn) (length taken)
  pub filled : (p : ℕ) → first peer_isn ≤ p → p < below_limit fin x → (b : ℕ) × (m p ≡ Some b)
  pub low : (p b : ℕ) → m p ≡ Some b → first peer_isn ≤ p
  pub high : (p b : ℕ) → m p ≡ Some b → p < first peer_isn + length taken + 65535
  pub room : below_limit fin x ≤ first peer_isn + length taken + 65535
  pub fin_high : (f : ℕ) → fin ≡ Some f → x ≤ f + 1
  pub fin_low : (f : ℕ) → fin ≡ Some f → first peer_isn ≤ f
  pub fin_none : (f p : ℕ) → fin ≡ Some f → f ≤ p → m p ≡ None
  pub unknown : peer_isn ≡ None → (x ≡ 0) × (fin ≡ None) × ((p : ℕ) → m p ≡ None)

pub or_none : (o : Option ℕ) → (o ≡ None) ⊎ ((b : ℕ) × (o ≡ Some b))
or_none None = inl refl
or_none (Some b) = inr (b, refl)

low_if : (p more : ℕ) (b : Bool) → suc p ≤ more → p ≤ (if b then more else p)
low_if p more true h = omega arith
low_if p more false h = omega arith

pub fm_low : (m : ℕ → Option ℕ) (p k : ℕ) → p ≤ first_missing m p k
fm_low m p zero = omega arith
fm_low m p (suc k) = low_if p (first_missing m (suc p) k) (is_some (m p)) (fm_low m (suc p) k)

high_if : (p k more : ℕ) (b : Bool) → more ≤ suc p + k → (if b then more else p) ≤ p + suc k
high_if p k more true h = omega arith
high_if p k more false h = omega arith

pub fm_high : (m : ℕ → Option ℕ) (p k : ℕ) → first_missing m p k ≤ p + k
fm_high m p zero = omega arith
fm_high m p (suc k) = high_if p k (first_missing m (suc p) k) (is_some (m p)) (fm_high m (suc p) k)

some_if : (m : ℕ → Option ℕ) (p more i : ℕ) (o : Option ℕ) → m p ≡ o → (suc p ≤ i → i < more → (b : ℕ) × (m i ≡ Some b)) → p ≤ i → i < (if is_some o then more else p)
    → (b : ℕ) × (m i ≡ Some b)
some_if m p more i None is more_is low high = absurd (omega arith)
some_if m p more i (Some v) is more_is low high =
    ⊎_elim (λ (e : i < suc p). let same : i ≡ p = omega arith in (v, ap m same ∙ is)) (λ (e : suc p ≤ i). more_is e high) (or_lt i (suc p))

pub fm_some : (m : ℕ → Option ℕ) (p k i : ℕ) → p ≤ i → i < first_missing m p k → (b : ℕ) × (m i ≡ Some b)
fm_some m p zero i low high = absurd (omega arith)
fm_some m p (suc k) i low high = some_if m p (first_missing m (suc p) k) i (m p) refl (λ a b. fm_some m (suc p) k i a b) low high

none_if : (m : ℕ → Option ℕ) (p k more : ℕ) (o : Option ℕ) → m p ≡ o → (more < suc p + k → m more ≡ None) → (if is_some o then more else p) < p + suc k
    → m (if is_some o then more else p) ≡ None
none_if m p k more None is more_is h = is
none_if m p k more (Some v) is more_is h = more_is (omega arith)

pub fm_none : (m : ℕ → Option ℕ) (p k : ℕ) → first_missing m p k < p + k → m (first_missing m p k) ≡ None
fm_none m p zero h = absurd (omega arith)
fm_none m p (suc k) h = none_if m p k (first_missing m (suc p) k) (m p) refl (λ a. fm_none m (suc p) k a) h

stop_if : (m : ℕ → Option ℕ) (p more q : ℕ) (o : Option ℕ) → m p ≡ o → (suc p ≤ q → more ≤ q) → p ≤ q → m q ≡ None → (if is_some o then more else p) ≤ q
stop_if m p more q None is more_is low none = low
stop_if m p more q (Some v) is more_is low none =
    ⊎_elim (λ (e : q < suc p). let same : q ≡ p = omega arith in let other : m q ≡ Some v = ap m same ∙ is in absurd (cc)) (λ (e : suc p ≤ q). more_is e) (or_lt q (suc p))

-- the first missing position isn't past a position without a byte
pub fm_stop : (m : ℕ → Option ℕ) (p k q : ℕ) → p ≤ q → m q ≡ None → first_missing m p k ≤ q
fm_stop m p zero q low none = low
fm_stop m p (suc k) q low none = stop_if m p (first_missing m (suc p) k) q (m p) refl (λ a. fm_stop m (suc p) k q a none) low none

runs_if : (m : ℕ → Option ℕ) (p k : ℕ) (o : Option ℕ) → m p ≡ o → (if is_some o && not false then 1 else 0) + runs m (is_some o) (suc p) k ≡ 0
    → (m p ≡ None) × (runs m false (suc p) k ≡ 0)
runs_if m p k None is e = (is, omega arith)
runs_if m p k (Some v) is e = absurd (omega arith)

-- where there is no run, there is no byte
pub runs_none : (m : ℕ → Option ℕ) (p k i : ℕ) → runs m false p k ≡ 0 → p ≤ i → i < p + k → m i ≡ None
runs_none m p zero i e low high = absurd (omega arith)
runs_none m p (suc k) i e low high =
    let r = runs_if m p k (m p) refl e in
    ⊎_elim (λ (h : i < suc p). let same : i ≡ p = omega arith in ap m same ∙ r.0) (λ (h : suc p ≤ i). runs_none m (suc p) k i r.1 h (omega arith)) (or_lt i (suc p))

-- the room for bytes
abbrev pub room_of : Option ℕ → List ℕ → Option ℕ → ℕ → ℕ
room_of peer_isn taken fin x = 65535 - (below_limit fin x - (first peer_isn + length taken))

between : (low high n p : ℕ) → (nat_le low p && nat_lt p high && nat_le n p) ≡ true → (low ≤ p) × (p < high) × (n ≤ p)
between low high n p e =
    let a = and_tells (nat_le low p && nat_lt p high) (nat_le n p) e in
    let b = and_tells (nat_le low p) (nat_lt p high) a.0 in
    (le_is low p b.0, lt_is p high b.1, le_is n p a.1)

-- a byte that is kept anew lies between the bounds
pub keep-bounds : (m : ℕ → Option ℕ) (n : ℕ) (payload : List ℕ) (low high p b : ℕ) → keep m (record { number = n; bytes = payload }) (record { low = low; high = high }) p ≡ Some b
    → (m p ≡ Some b) ⊎ ((low ≤ p) × (p < high))
unfolding keep
keep-bounds m n payload low high p b e =
    ⊎_elim (λ (x : m p ≡ Some b). inl x)
    (λ (x : ((nat_le low p && nat_lt p high && nat_le n p) ≡ true) × (slice_get payload (p - n) ≡ Some b)). let r = between low high n p x.0 in inr (r.0, r.1))
    (first_known-cases (m p) (nat_le low p && nat_lt p high && nat_le n p) (slice_get payload (p - n)) b e)

pub not_some : (o : Option ℕ) → ((b : ℕ) → o ≡ Some b → ⊥) → o ≡ None
not_some None h = refl
not_some (Some b) h = absurd (h b refl)

limit_le : (fin : Option ℕ) (x : ℕ) → below_limit fin x ≤ x
limit_le None x = omega arith
limit_le (Some f) x = omega arith

under_limit : (fin : Option ℕ) (f x p : ℕ) → fin ≡ Some f → p < below_limit fin x → p < f
under_limit fin f x p e h = let g : p < below_limit (Some f) x = subst (λ (o : Option ℕ). p < below_limit o x) e h in omega arith

-- positions that are kept lie where there is room
keep_high : (fin : Option ℕ) (start x p : ℕ) → start ≤ below_limit fin x → below_limit fin x ≤ start + 65535 → ((f : ℕ) → fin ≡ Some f → x ≤ f + 1)
    → x ≤ p → p < below_limit fin (x + (65535 - (below_limit fin x - start))) → p < start + 65535
keep_high None start x p a b c low high = omega arith
keep_high (Some f) start x p a b c low high = let h = c f refl in omega arith

pub kept : (q : ℕ) (taken : List ℕ) (m : ℕ → Option ℕ) (fin : Option ℕ) (x n : ℕ) (payload : List ℕ) → Stream (Some q) taken m fin x
    → Stream (Some q) taken (keep m (record { number = n; bytes = payload }) (record { low = x; high = below_limit fin (x + room_of (Some q) taken fin x) })) fin x
kept q taken m fin x n payload h =
    let top = below_limit fin (x + room_of (Some q) taken fin x) in
    let new = keep m (record { number = n; bytes = payload }) (record { low = x; high = top }) in
    let begun = h.begun in
    let le = limit_le fin x in
    let old : (p : ℕ) → q + 1 ≤ p → p < below_limit fin x → (b : ℕ) × (m p ≡ Some b) × (new p ≡ Some b) =
    λ p low high. let f = h.filled p low high in (f.0, f.1, keep-old m n payload x top p f.0 f.1) in
    record {
      begun = h.begun;
      took = h.took ∙ same-bytes_from m new (q + 1) (length taken) (λ i low high. let f = old i low (omega arith) in f.1 ∙ sym f.2);
      filled = λ p low high. let f = old p low high in (f.0, f.2);
      low = λ p b e.
          ⊎_elim (λ (a : m p ≡ Some b). h.low p b a) (λ (a : (x ≤ p) × (p < top)). let l = a.0 in omega arith) (keep-bounds m n payload x top p b e);
      high = λ p b e.
          ⊎_elim (λ (a : m p ≡ Some b). h.high p b a)
          (λ (a : (x ≤ p) × (p < top)). keep_high fin (q + 1 + length taken) x p h.begun h.room h.fin_high a.0 a.1)
          (keep-bounds m n payload x top p b e);
      room = h.room;
      fin_high = h.fin_high;
      fin_low = h.fin_low;
      fin_none = λ f p e low.
          not_some (new p) (λ b is.
          ⊎_elim (λ (a : m p ≡ Some b). let none = h.fin_none f p e low in absurd (cc))
          (λ (a : (x ≤ p) × (p < top)). let lt = under_limit fin f (x + room_of (Some q) taken fin x) p e a.1 in absurd (omega arith))
          (keep-bounds m n payload x top p b is));
      unknown = λ e. absurd (cc);
    }

-- the number expected moves to the first missing one
moved_room : (fin : Option ℕ) (start x y : ℕ) → start ≤ below_limit fin x → below_limit fin x ≤ start + 65535 → ((f : ℕ) → fin ≡ Some f → x ≤ f + 1)
    → x ≤ y → y ≤ x + (65535 - (below_limit fin x - start)) → below_limit fin y ≤ start + 65535
moved_room None start x y a b c low high = omega arith
moved_room (Some f) start x y a b c low high = let h = c f refl in omega arith

limit_mono : (fin : Option ℕ) (x y : ℕ) → x ≤ y → below_limit fin x ≤ below_limit fin y
limit_mono None x y h = h
limit_mono (Some f) x y h = omega arith

split_limit : (fin : Option ℕ) (x y p : ℕ) → p < below_limit fin y → (p < below_limit fin x) ⊎ ((x ≤ p) × (p < y))
split_limit None x y p h = ⊎_elim (λ (a : p < x). inl a) (λ (a : x ≤ p). inr (a, h)) (or_lt p x)
split_limit (Some f) x y p h = ⊎_elim (λ (a : p < x). inl (omega arith)) (λ (a : x ≤ p). inr (a, omega arith)) (or_lt p x)

pub moved : (q : ℕ) (taken : List ℕ) (m : ℕ → Option ℕ) (fin : Option ℕ) (x : ℕ) → Stream (Some q) taken m fin x
    → Stream (Some q) taken m fin (first_missing m x (room_of (Some q) taken fin x))
moved q taken m fin x h =
    let w = room_of (Some q) taken fin x in
    let y = first_missing m x w in
    let low = fm_low m x w in
    let high = fm_high m x w in
    let mono = limit_mono fin x y low in
    let begun = h.begun in
    record {
      begun = omega arith;
      took = h.took;
      filled = λ p a b.
          ⊎_elim (λ (c : p < below_limit fin x). h.filled p a c) (λ (c : (x ≤ p) × (p < y)). fm_some m x w p c.0 c.1) (split_limit fin x y p b);
      low = h.low;
      high = h.high;
      room = moved_room fin (q + 1 + length taken) x y h.begun h.room h.fin_high low high;
      fin_high = λ f e. fm_stop m x w (f + 1) (h.fin_high f e) (h.fin_none f (f + 1) e (omega arith));
      fin_low = h.fin_low;
      fin_none = h.fin_none;
      unknown = λ e. absurd (cc);
    }

-- a position past all room has no byte
pub edge : (fin : Option ℕ) (start x : ℕ) → start ≤ below_limit fin x → start + 65535 ≤ x + (65535 - (below_limit fin x - start))
edge None start x a = omega arith
edge (Some f) start x a = omega arith

pub moved_missing : (q : ℕ) (taken : List ℕ) (m : ℕ → Option ℕ) (fin : Option ℕ) (x : ℕ) → Stream (Some q) taken m fin x
    → m (first_missing m x (room_of (Some q) taken fin x)) ≡ None
moved_missing q taken m fin x h =
    let w = room_of (Some q) taken fin x in
    let y = first_missing m x w in
    let high = fm_high m x w in
    ⊎_elim (λ (a : y < x + w). fm_none m x w a)
    (λ (a : x + w ≤ y).
    not_some (m y) (λ b is. let top = h.high y b is in let far = edge fin (q + 1 + length taken) x h.begun in absurd (omega arith)))
    (or_lt y (x + w))

-- a FIN is recorded
pub recorded : (q : ℕ) (taken : List ℕ) (m : ℕ → Option ℕ) (x f : ℕ) → x ≤ f → ((p : ℕ) → f ≤ p → m p ≡ None) → Stream (Some q) taken m None x
    → Stream (Some q) taken m (Some f) x
recorded q taken m x f le none h =
    let begun = h.begun in
    let room = h.room in
    record {
      begun = omega arith;
      took = h.took;
      filled = λ p a b. h.filled p a (omega arith);
      low = h.low;
      high = h.high;
      room = omega arith;
      fin_high = λ g e. let same = some_is f g e in omega arith;
      fin_low = λ g e. let same = some_is f g e in omega arith;
      fin_none = λ g p e low. let same = some_is f g e in none p (omega arith);
      unknown = λ e. absurd (cc);
    }

-- the number expected moves past the FIN
pub passed : (q : ℕ) (taken : List ℕ) (m : ℕ → Option ℕ) (f : ℕ) → Stream (Some q) taken m (Some f) f → Stream (Some q) taken m (Some f) (f + 1)
passed q taken m f h =
    let begun = h.begun in
    let room = h.room in
    record {
      begun = omega arith;
      took = h.took;
      filled = λ p a b. h.filled p a (omega arith);
      low = h.low;
      high = h.high;
      room = omega arith;
      fin_high = λ g e. let same = some_is f g e in omega arith;
      fin_low = h.fin_low;
      fin_none = h.fin_none;
      unknown = λ e. absurd (cc);
    }
