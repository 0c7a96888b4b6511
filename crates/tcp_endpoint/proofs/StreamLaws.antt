-- The buffer's words on received bytes are the book's.
use Rattle.std.proofs.Common.{◌≡◌, ℕ, zero, suc, ◌+◌, ◌-◌, ◌<◌, ◌≤◌, min, Bool, true, false, not, List, Option, Some, None, refl, sym, ap, ◌∙◌, arith, subst}
use Rattle.std.specs.Prelude.{nat_lt, nat_le, ◌==◌, ◌&&◌, if◌then◌else◌, slice_get, is_some, IsSome, IsTrue}
use Rattle.std.proofs.lemmas.Bool.Decides.{nat_tests}
use Rattle.book_endpoint.specs.Hearing as hearing
use Rattle.book_segments.specs.Received.{keep, first_missing, runs, below_limit, first_known}
use Rattle.stream_buffers.specs.Kept.{Kept, byte_at, grown, window, missing_then, runs_then}

-- from a position on, the maps have the same bytes
pub record SameFrom (n : ℕ) (m o : ℕ → Option ℕ) : Type 0 where
  pub at : (p : ℕ) → n ≤ p → m p ≡ o p

pub later : (n k : ℕ) (m o : ℕ → Option ℕ) → SameFrom n m o → n ≤ k → SameFrom k m o
later n k m o s le = record { at = λ p h. s.at p (omega arith) }

or_same : (a b c : Option ℕ) → a ≡ b → first_known a c ≡ first_known b c
or_same (Some a) b c e = subst (λ x. Some a ≡ first_known x c) e refl
or_same None b c e = subst (λ x. c ≡ first_known x c) e refl

pub keep_same : (from n low high : ℕ) (m o : ℕ → Option ℕ) (piece : List ℕ) → SameFrom from m o → SameFrom from (keep m (record { number = n; bytes = piece }) (record { low = low; high = high })) (keep o (record { number = n; bytes = piece }) (record { low = low; high = high }))
unfolding keep
keep_same from n low high m o piece s = record { at = λ p h. or_same (m p) (o p) (if nat_le low p && nat_lt p high && nat_le n p then slice_get piece (p - n) else None) (s.at p h) }

missing_if : (a b : Bool) (x y z : ℕ) → a ≡ b → x ≡ y → (if a then x else z) ≡ (if b then y else z)
missing_if a b x y z p q = rw (p, q) refl

pub missing_same : (m o : ℕ → Option ℕ) (p k : ℕ) → SameFrom p m o → first_missing m p k ≡ first_missing o p k
missing_same m o p zero s = refl
missing_same m o p (suc k) s =
    missing_if (is_some (m p)) (is_some (o p)) (first_missing m (suc p) k) (first_missing o (suc p) k) p (ap is_some (s.at p (omega arith))) (missing_same m o (suc p) k (later p (suc p) m o s (omega arith)))

runs_if : (a b inside : Bool) (x y : ℕ) → a ≡ b → x ≡ y → (if a && not inside then 1 else 0) + x ≡ (if b && not inside then 1 else 0) + y
runs_if a b inside x y p q = rw (p, q) refl

pub runs_same : (m o : ℕ → Option ℕ) (inside : Bool) (p k : ℕ) → SameFrom p m o → runs m inside p k ≡ runs o inside p k
runs_same m o inside p zero s = refl
runs_same m o inside p (suc k) s =
    let here : is_some (m p) ≡ is_some (o p) = ap is_some (s.at p (omega arith)) in
    let rest : runs m (is_some (m p)) (suc p) k ≡ runs o (is_some (m p)) (suc p) k = runs_same m o (is_some (m p)) (suc p) k (later p (suc p) m o s (omega arith)) in
    runs_if (is_some (m p)) (is_some (o p)) inside (runs m (is_some (m p)) (suc p) k) (runs o (is_some (o p)) (suc p) k) here (rest ∙ ap (λ b. runs o b (suc p) k) here)

-- the first missing position lies in the window
pub missing_low : (m : ℕ → Option ℕ) (p k : ℕ) → p ≤ first_missing m p k
missing_low m p zero = omega arith
missing_low m p (suc k) = elim (is_some (m p)) as (λ b. p ≤ (if b then first_missing m (suc p) k else p)) [ true ↦ (let h = missing_low m (suc p) k in omega (arith, h)) | false ↦ omega arith ]

pub missing_high : (m : ℕ → Option ℕ) (p k : ℕ) → first_missing m p k ≤ p + k
missing_high m p zero = omega arith
missing_high m p (suc k) = elim (is_some (m p)) as (λ b. (if b then first_missing m (suc p) k else p) ≤ p + suc k) [ true ↦ (let h = missing_high m (suc p) k in omega (arith, h)) | false ↦ omega arith ]

runs_none : (b : Bool) (m : ℕ → Option ℕ) (p k : ℕ) → b ≡ false → runs m false (suc p) k ≡ 0 → (if b && not false then 1 else 0) + runs m b (suc p) k ≡ 0
runs_none true m p k e h = absurd (cc)
runs_none false m p k e h = omega (arith, h)

-- no run begins where no byte is
pub no_runs : (m : ℕ → Option ℕ) (p k : ℕ) → ((q : ℕ) → p ≤ q → m q ≡ None) → runs m false p k ≡ 0
no_runs m p zero none = refl
no_runs m p (suc k) none =
    let here : m p ≡ None = none p (omega arith) in
    let gone : is_some (m p) ≡ false = ap is_some here in
    let rest : runs m false (suc p) k ≡ 0 = no_runs m (suc p) k (λ q a. none q (omega arith)) in
    runs_none (is_some (m p)) m p k gone rest

runs_some : (b : Bool) (m : ℕ → Option ℕ) (p k : ℕ) → (b ≡ false → 0 < runs m false (suc p) k) → 0 < (if b && not false then 1 else 0) + runs m b (suc p) k
runs_some true m p k h = omega arith
runs_some false m p k h = let e = h refl in omega (arith, e)

gone_is : (a : Option ℕ) → is_some a ≡ false → IsSome a → ⊥
gone_is a e h = absurd (cc)

-- a run begins from p on, where some byte is
pub some_runs : (m : ℕ → Option ℕ) (p k q : ℕ) → p ≤ q → q < p + k → IsSome (m q) → 0 < runs m false p k
some_runs m p zero q a b h = absurd (omega arith)
some_runs m p (suc k) q a b h =
    runs_some (is_some (m p)) m p k
    (λ e. let other : (q ≡ p) → ⊥ = λ o. gone_is (m q) (subst (λ z. is_some (m z) ≡ false) (sym o) e) h in
    some_runs m (suc p) k q (grind (arith, other)) (omega arith) h)

pub none_of : (o : Option ℕ) → (IsSome o → ⊥) → o ≡ None
none_of None h = refl
none_of (Some a) h = absurd (h refl)

shift_keep : (from n lo to hi high : ℕ) (m o : ℕ → Option ℕ) (piece : List ℕ) → lo ≡ to → hi ≡ high → SameFrom from m (keep o (record { number = n; bytes = piece }) (record { low = lo; high = hi })) → SameFrom from m (keep o (record { number = n; bytes = piece }) (record { low = to; high = high }))
shift_keep from n lo to hi high m o piece p q s =
    subst (λ b. SameFrom from m (keep o (record { number = n; bytes = piece }) (record { low = to; high = b }))) q (subst (λ a. SameFrom from m (keep o (record { number = n; bytes = piece }) (record { low = a; high = hi }))) p s)

-- a piece that the buffer keeps is kept as in the book
pub grown_same : (k : Kept) (o : ℕ → Option ℕ) (n x w : ℕ) (piece : List ℕ) (fin end : Option ℕ) → SameFrom k.from (byte_at k) o → k.expected ≡ x → window k ≡ w → fin ≡ end
    → SameFrom k.from (grown k n piece fin) (keep o (record { number = n; bytes = piece }) (record { low = x; high = below_limit end (x + w) }))
grown_same k o n x w piece fin end s a b e =
    let base : SameFrom k.from (grown k n piece fin) (keep o (record { number = n; bytes = piece }) (record { low = k.expected; high = below_limit fin (k.expected + window k) })) = keep_same k.from n k.expected (below_limit fin (k.expected + window k)) (byte_at k) o piece s in
    let high : below_limit fin (k.expected + window k) ≡ below_limit end (x + w) = ap (λ f. below_limit f (k.expected + window k)) e ∙ ap (λ z. below_limit end z) (ap (λ y. y + window k) a ∙ ap (λ y. x + y) b) in
    shift_keep k.from n k.expected x (below_limit fin (k.expected + window k)) (below_limit end (x + w)) (grown k n piece fin) o piece a high base

minus_same : (a b c d : ℕ) → a ≡ b → c ≡ d → a - c ≡ b - d
minus_same a b c d p q = rw (p, q) refl

missing_move : (o : ℕ → Option ℕ) (a b c d : ℕ) → a ≡ b → c ≡ d → first_missing o a c ≡ first_missing o b d
missing_move o a b c d p q = ap (λ z. first_missing o z c) p ∙ ap (λ z. first_missing o b z) q

runs_move : (o : ℕ → Option ℕ) (a b c d : ℕ) → a ≡ b → c ≡ d → runs o false a c ≡ runs o false b d
runs_move o a b c d p q = ap (λ z. runs o false z c) p ∙ ap (λ z. runs o false b z) q

pub missing_then_is : (k : Kept) (m o : ℕ → Option ℕ) (x w : ℕ) → SameFrom k.from m o → k.from ≤ k.expected → k.expected ≡ x → window k ≡ w → missing_then k m ≡ first_missing o x w
missing_then_is k m o x w s le a b =
    missing_same m o k.expected (window k) (later k.from k.expected m o s le) ∙ missing_move o k.expected x (window k) w a b

pub runs_then_is : (k : Kept) (m o : ℕ → Option ℕ) (x w : ℕ) → SameFrom k.from m o → k.from ≤ k.expected → k.expected ≡ x → window k ≡ w
    → runs_then k m ≡ runs o false (first_missing o x w) (x + w - first_missing o x w)
runs_then_is k m o x w s le a b =
    let at = missing_then_is k m o x w s le a b in
    let low : k.expected ≤ missing_then k m = missing_low m k.expected (window k) in
    runs_same m o false (missing_then k m) (k.expected + window k - missing_then k m) (later k.from (missing_then k m) m o s (omega (arith, low)))
    ∙ runs_move o (missing_then k m) (first_missing o x w) (k.expected + window k - missing_then k m) (x + w - first_missing o x w) at (minus_same (k.expected + window k) (x + w) (missing_then k m) (first_missing o x w) (ap (λ y. y + window k) a ∙ ap (λ y. x + y) b) at)

and_same : (fin a b c : Bool) → (a ≡ true → b ≡ c) → (fin && a && b) ≡ (fin && a && c)
and_same fin true b c h = ap (λ z. fin && true && z) (h refl)
and_same true false b c h = refl
and_same false false b c h = refl

none_test : (count : ℕ) (kept : Bool) → (kept ≡ true → 0 < count) → (kept ≡ false → count ≡ 0) → not kept ≡ (count == 0)
none_test count true a b = let h = a refl in grind (arith, nat_tests)
none_test count false a b = let h = b refl in grind (arith, nat_tests)

some_found : (m o : ℕ → Option ℕ) (f x w from p : ℕ) → SameFrom from m o → from ≤ f → f ≤ p → x ≤ f → f < x + w → IsSome (m p) → ((q : ℕ) → x + w ≤ q → m q ≡ None) → 0 < runs o false f (x + w - f)
some_found m o f x w from p s le a low high h far =
    let other : (x + w ≤ p) → ⊥ = λ b. gone_is (m p) (ap is_some (far p b)) h in
    some_runs o f (x + w - f) p a (grind (arith, other)) (ap is_some (sym (s.at p (omega arith))) ∙ h)

-- a FIN is recorded where no byte is kept at or past it
pub records_same : (fin : Bool) (f x w from : ℕ) (kept : Bool) (m o : ℕ → Option ℕ) → SameFrom from m o → from ≤ x
    → (IsTrue kept → (p : ℕ) × (f ≤ p) × IsSome (m p)) → (((p : ℕ) × (f ≤ p) × IsSome (m p)) → IsTrue kept) → ((p : ℕ) → x + w ≤ p → m p ≡ None)
    → (fin && hearing.in_range f x (x + w) && not kept) ≡ (fin && hearing.in_range f x (x + w) && (runs o false f (x + w - f) == 0))
records_same fin f x w from kept m o s le there back far =
    and_same fin (hearing.in_range f x (x + w)) (not kept) (runs o false f (x + w - f) == 0)
    (λ inside.
    let low : x ≤ f = grind (arith, nat_tests, inside) in
    let high : f < x + w = grind (arith, nat_tests, inside) in
    none_test (runs o false f (x + w - f)) kept
    (λ e. let found = there e in some_found m o f x w from found.0 s (omega arith) found.1 low high found.2 far)
    (λ e. no_runs o f (x + w - f) (λ q a. sym (s.at q (omega arith)) ∙ none_of (m q) (λ h. let t = back (q, a, h) in absurd (cc)))))

off : (a b c : Bool) (x : Option ℕ) → b ≡ false → (if a && b && c then x else None) ≡ None
off true true c x e = absurd (cc)
off true false c x e = refl
off false true c x e = absurd (cc)
off false false c x e = refl

or_none : (a b : Option ℕ) → a ≡ None → b ≡ None → first_known a b ≡ None
or_none None b p q = q
or_none (Some a) b p q = absurd (cc)

keep_none : (m : ℕ → Option ℕ) (n : ℕ) (piece : List ℕ) (low high z : ℕ) → m z ≡ None → nat_lt z high ≡ false → keep m (record { number = n; bytes = piece }) (record { low = low; high = high }) z ≡ None
unfolding keep
keep_none m n piece low high z e t = or_none (m z) (if nat_le low z && nat_lt z high && nat_le n z then slice_get piece (z - n) else None) e (off (nat_le low z) (nat_lt z high) (nat_le n z) (slice_get piece (z - n)) t)

-- nothing is kept at or past a limit
pub grown_clear : (k : Kept) (n : ℕ) (piece : List ℕ) (fin : Option ℕ) (f z : ℕ) → fin ≡ Some f → f ≤ z → byte_at k z ≡ None → grown k n piece fin z ≡ None
grown_clear k n piece None f z e le none = absurd (cc)
grown_clear k n piece (Some g) f z e le none =
    let q : g ≡ f = cc in
    keep_none (byte_at k) n piece k.expected (min g (k.expected + window k)) z none (grind (arith, nat_tests, q))
