-- The orders of addresses, sockets and pairs tell them apart; two sockets in their order are the same seen from either, and others for other sockets.
use Rattle.std.proofs.Common.{◌≡◌, ℕ, Bool, true, false, not, ◌⊎◌, inl, inr, refl, ap, ◌∙◌}
use Rattle.std.specs.Prelude.{if◌then◌else◌}
use Rattle.std.specs.BTreeMap.{is_at}
use Rattle.std.specs.declared.cmp.Ordering.{Ordering}
use Rattle.std.specs.declared.cmp.Ordering.TheVariants.{Less, Equal, Greater}
use Rattle.std.specs.Ordering.{is_eq, is_lt, nat_cmp, ordering_reverse, ordering_then}
use Rattle.std.proofs.lemmas.Cmp.{tied_itself}
use Rattle.std.proofs.lemmas.Map.Lookups.{exact_unsigned, exact_bytes}
use Rattle.book_base.specs.declared.address.Address.{Address}
use Rattle.book_base.specs.declared.address.Address.TheVariants.{V4, V6}
use Rattle.book_base.specs.declared.address.Socket.{Socket}
use Rattle.book_base.specs.declared.address.Pair.{Pair}
use Rattle.book_base.specs.contracts.address.SocketOrd.TheImpl.Laws as socket_laws
use Rattle.book_base.specs.contracts.address.PairOrd.TheImpl.Laws as pair_laws
use Rattle.book_base.specs.Orders.{by_address, by_pair, by_socket, is_low, sorted_pair}

pub is_equal : (o : Ordering) → is_eq o ≡ true → o ≡ Equal
is_equal Less h = absurd (cc)
is_equal Equal h = refl
is_equal Greater h = absurd (cc)

pub then_equal : (a b : Ordering) → ordering_then a b ≡ Equal → (a ≡ Equal) × (b ≡ Equal)
then_equal Less b e = absurd (cc)
then_equal Equal b e = (refl, e)
then_equal Greater b e = absurd (cc)

exact_address : (x y : Address) → by_address x y ≡ Equal → x ≡ y
exact_address (V4 a) (V4 b) e = ap V4 (exact_bytes a b e)
exact_address (V6 a) (V6 b) e = ap V6 (exact_bytes a b e)
exact_address (V4 a) (V6 b) e = absurd (cc)
exact_address (V6 a) (V4 b) e = absurd (cc)

pub exact_socket : (x y : Socket) → by_socket x y ≡ Equal → x ≡ y
exact_socket x y e =
    let t = then_equal (nat_cmp x.port y.port) (by_address x.address y.address) e in
    let half : x ≡ record { port = y.port; address = x.address } = ap (λ (n : ℕ). let k : Socket = record { port = n; address = x.address } in k) (exact_unsigned x.port y.port t.0) in
    half ∙ ap (λ (a : Address). let k : Socket = record { port = y.port; address = a } in k) (exact_address x.address y.address t.1)

exact_pair : (x y : Pair) → by_pair x y ≡ Equal → x ≡ y
exact_pair x y e =
    let t = then_equal (by_socket x.local y.local) (by_socket x.remote y.remote) e in
    let half : x ≡ record { local = y.local; remote = x.remote } = ap (λ (s : Socket). let k : Pair = record { local = s; remote = x.remote } in k) (exact_socket x.local y.local t.0) in
    half ∙ ap (λ (s : Socket). let k : Pair = record { local = y.local; remote = s } in k) (exact_socket x.remote y.remote t.1)

-- a pair is found at itself
pub pair_tied : (x : Pair) → is_at (by_pair x) x ≡ true
pair_tied x = ap is_eq (tied_itself pair_laws.total-law x)

-- and at no other
pub pair_told : (x y : Pair) → is_at (by_pair x) y ≡ true → x ≡ y
pair_told x y e = exact_pair x y (is_equal (by_pair x y) e)

-- ---- two sockets in their order

-- of two sockets that differ, the first is low exactly where the second isn't
pub low_turned : (a b : Socket) → (a ≡ b → ⊥) → is_low b a ≡ not (is_low a b)
low_turned a b differ = at (by_socket a b) (by_socket b a) refl (socket_laws.total-law.antisymm a b)
  where
    at : (o p : Ordering) → by_socket a b ≡ o → o ≡ ordering_reverse p → not (is_lt o) ≡ not (not (is_lt p))
    at Less Greater s h = refl
    at Greater Less s h = refl
    at Equal p s h = absurd (differ (exact_socket a b s))
    at Less Less s h = absurd (cc)
    at Less Equal s h = absurd (cc)
    at Greater Greater s h = absurd (cc)
    at Greater Equal s h = absurd (cc)

one_of : Socket → Socket → Bool → Pair
one_of x y v = if v then record { local = x; remote = y } else record { local = y; remote = x }

-- in their order they are the same seen from either
pub sorted_turned : (a b : Socket) → sorted_pair b a ≡ sorted_pair a b
unfolding one_of
sorted_turned a b = by_order (by_socket a b) refl
  where
    at : (v w : Bool) → w ≡ not v → one_of b a w ≡ one_of a b v
    at true true h = absurd (cc)
    at true false h = refl
    at false true h = refl
    at false false h = absurd (cc)

    apart : (o : Ordering) → by_socket a b ≡ o → is_eq o ≡ false → a ≡ b → ⊥
    apart o e f same = let tied : is_eq (by_socket a a) ≡ true = ap is_eq (tied_itself socket_laws.total-law a) in let told : is_eq (by_socket a a) ≡ false = ap (λ (k : Socket). is_eq (by_socket a k)) same ∙ ap is_eq e ∙ f in cc

    by_order : (o : Ordering) → by_socket a b ≡ o → sorted_pair b a ≡ sorted_pair a b
    by_order Equal e = rw (exact_socket a b e) refl
    by_order Less e = at (is_low a b) (is_low b a) (low_turned a b (apart Less e refl))
    by_order Greater e = at (is_low a b) (is_low b a) (low_turned a b (apart Greater e refl))

-- and they are these two, in one order or the other
pub sorted_told : (a b c d : Socket) → sorted_pair a b ≡ sorted_pair c d → ((a ≡ c) × (b ≡ d)) ⊎ ((a ≡ d) × (b ≡ c))
unfolding one_of
sorted_told a b c d e = at (is_low a b) (is_low c d) e
  where
    at : (v w : Bool) → one_of a b v ≡ one_of c d w → ((a ≡ c) × (b ≡ d)) ⊎ ((a ≡ d) × (b ≡ c))
    at true true h = inl (ap (λ (k : Pair). k.local) h, ap (λ (k : Pair). k.remote) h)
    at false false h = inl (ap (λ (k : Pair). k.remote) h, ap (λ (k : Pair). k.local) h)
    at true false h = inr (ap (λ (k : Pair). k.local) h, ap (λ (k : Pair). k.remote) h)
    at false true h = inr (ap (λ (k : Pair). k.remote) h, ap (λ (k : Pair). k.local) h)
