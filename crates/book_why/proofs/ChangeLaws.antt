-- What is filtered out of a table of changes, and which rows the table has.
use Rattle.std.proofs.Common.{◌≡◌, ℕ, zero, suc, ◌+◌, ◌-◌, ◌≤◌, ◌<◌, Bool, true, false, cond, List, [], ◌∷◌, ◌++◌, length, Option, Some, None, ◌⊎◌, inl, inr, refl, sym, ap, subst, ◌∙◌, arith}
use Rattle.std.specs.Prelude.{Contains, filter, map, ◌↔◌}
use Rattle.std.proofs.lemmas.List.Elements.{Contains-append_left, Contains-append_right, Contains-append_cases, Contains-push, Contains-push_cases}
use Rattle.book_segments.specs.Bytes.{same_bytes}
use Rattle.book_segments.proofs.Fields.{same_bytes_tells}
use Rattle.book_keys.specs.Rows.{Row, Table}
use Rattle.std.specs.Prelude.{◌==◌}
use Rattle.std.proofs.lemmas.Bool.Decides.{nat_tests}
use Rattle.book_why.specs.declared.change.Change.{Change}
use Rattle.book_why.specs.declared.change.Change.TheVariants.{AnotherRow, OtherConnection}
use Rattle.book_why.specs.declared.change.IsnPair.{IsnPair}
use Rattle.book_why.specs.declared.change.SegmentNode.{SegmentNode}
use Rattle.book_why.specs.declared.change.SegmentNode.TheVariants.{Receiver, Sender}
use Rattle.book_why.specs.Changes.{BothTables, all_changes, changed, passes_changed, row_changes, rowless_changes, rows_there, table_at, would_pass}
use Rattle.book_why.specs.Recipes.{Suspect, mac_made}
use Rattle.book_segments.proofs.SocketLaws.{same_bytes-refl}

pub none : {X : Type 0} → (x : X) → Contains [] x → ⊥
none x h = omega (arith, h.1)

pub front : {X : Type 0} → (xs : List X) (x : X) → Contains (x ∷ xs) x
front xs x = Contains-append_left (x ∷ []) xs x (Contains-push [] x)

pub behind : {X : Type 0} → (xs : List X) (x y : X) → Contains xs y → Contains (x ∷ xs) y
behind xs x y h = Contains-append_right (x ∷ []) xs y h

pub front_or_behind : {X : Type 0} → (xs : List X) (x y : X) → Contains (x ∷ xs) y → (x ≡ y) ⊎ Contains xs y
front_or_behind xs x y h = at (Contains-append_cases (x ∷ []) xs y h)
  where
    one : Contains [] y ⊎ (x ≡ y) → (x ≡ y) ⊎ Contains xs y
    one (inl f) = absurd (none y f)
    one (inr e) = inl e

    at : Contains (x ∷ []) y ⊎ Contains xs y → (x ≡ y) ⊎ Contains xs y
    at (inl f) = one (Contains-push_cases [] x y f)
    at (inr f) = inr f

-- what passes a filter was there, and passes the test
pub filter_to : {X : Type 0} → (test : X → Bool) (xs : List X) (y : X) → Contains (filter test xs) y → Contains xs y × (test y ≡ true)
filter_to test [] y h = absurd (none y h)
filter_to test (x ∷ xs) y h = at (filter_to test xs y) (test x) refl h
  where
    on : test x ≡ true → (Contains (filter test xs) y → Contains xs y × (test y ≡ true)) → (x ≡ y) ⊎ Contains (filter test xs) y → Contains (x ∷ xs) y × (test y ≡ true)
    on t later (inl e) = (subst (λ z. Contains (x ∷ xs) z) e (front xs x), sym (ap test e) ∙ t)
    on t later (inr f) = (behind xs x y (later f).0, (later f).1)

    at : (Contains (filter test xs) y → Contains xs y × (test y ≡ true)) → (b : Bool) → test x ≡ b → Contains (cond b (x ∷ filter test xs) (filter test xs)) y → Contains (x ∷ xs) y × (test y ≡ true)
    at later true t f = on t later (front_or_behind (filter test xs) x y f)
    at later false t f = (behind xs x y (later f).0, (later f).1)

-- what is there and passes the test passes the filter
pub filter_from : {X : Type 0} → (test : X → Bool) (xs : List X) (y : X) → Contains xs y → test y ≡ true → Contains (filter test xs) y
filter_from test [] y h t = absurd (none y h)
filter_from test (x ∷ xs) y h t = at (λ f. filter_from test xs y f t) (front_or_behind xs x y h) (test x) refl
  where
    at : (Contains xs y → Contains (filter test xs) y) → (x ≡ y) ⊎ Contains xs y → (b : Bool) → test x ≡ b → Contains (cond b (x ∷ filter test xs) (filter test xs)) y
    at later (inl e) true q = subst (λ z. Contains (x ∷ filter test xs) z) e (front (filter test xs) x)
    at later (inl e) false q = absurd (let same : test x ≡ test y = ap test e in cc)
    at later (inr f) true q = behind (filter test xs) x y (later f)
    at later (inr f) false q = later f

pub passing_told : (both : BothTables) (others : List IsnPair) (s : Suspect) (change : Change) → Contains (would_pass both others s) change ↔ (Contains (all_changes both others) change × (s.ao.mac ≡ mac_made (changed change both s)))
passing_told both others s change = (to, from)
  where
    to : Contains (would_pass both others s) change → Contains (all_changes both others) change × (s.ao.mac ≡ mac_made (changed change both s))
    to h = let f = filter_to (passes_changed both s) (all_changes both others) change h in (f.0, same_bytes_tells s.ao.mac (mac_made (changed change both s)) f.1)

    from : Contains (all_changes both others) change × (s.ao.mac ≡ mac_made (changed change both s)) → Contains (would_pass both others s) change
    from h = filter_from (passes_changed both s) (all_changes both others) change h.0 (subst (λ m. same_bytes s.ao.mac m ≡ true) h.1 (same_bytes-refl s.ao.mac))

rows_told : (node : SegmentNode) (m k : ℕ) (rs : List Row) → k < length rs → Contains (row_changes node m rs) (AnotherRow node (m + k))
rows_told node m k [] h = absurd (omega (arith, h))
rows_told node m zero (r ∷ rs) h = let same : m + 0 ≡ m = omega arith in rw same (front (row_changes node (m + 1) rs) (AnotherRow node m))
rows_told node m (suc k) (r ∷ rs) h =
    let shorter : k < length rs = omega (arith, h) in
    let same : m + suc k ≡ m + 1 + k = omega arith in
    rw same (behind (row_changes node (m + 1) rs) (AnotherRow node m) (AnotherRow node (m + 1 + k)) (rows_told node (m + 1) k rs shorter))

-- the changes behind those of the rows
unfoldable rest_of : List IsnPair → List Change
rest_of others = rowless_changes ++ map OtherConnection others

pub each_row_told : (both : BothTables) (others : List IsnPair) (node : SegmentNode) (n : ℕ) → 1 ≤ n → n ≤ length (rows_there (table_at both node)) → Contains (all_changes both others) (AnotherRow node n)
unfolding rest_of
each_row_told both others Receiver n low high =
    let same : 1 + (n - 1) ≡ n = omega (arith, low) in
    let least : n - 1 < length both.receiver.rows = omega (arith, low, high) in
    let told : Contains (row_changes Receiver 1 both.receiver.rows) (AnotherRow Receiver n) = subst (λ k. Contains (row_changes Receiver 1 both.receiver.rows) (AnotherRow Receiver k)) same (rows_told Receiver 1 (n - 1) both.receiver.rows least) in
    Contains-append_left (row_changes Receiver 1 both.receiver.rows) (row_changes Sender 1 (rows_there both.sender) ++ rest_of others) (AnotherRow Receiver n) told
each_row_told both others Sender n low high =
    let same : 1 + (n - 1) ≡ n = omega (arith, low) in
    let least : n - 1 < length (rows_there both.sender) = omega (arith, low, high) in
    let told : Contains (row_changes Sender 1 (rows_there both.sender)) (AnotherRow Sender n) = subst (λ k. Contains (row_changes Sender 1 (rows_there both.sender)) (AnotherRow Sender k)) same (rows_told Sender 1 (n - 1) (rows_there both.sender) least) in
    Contains-append_right (row_changes Receiver 1 both.receiver.rows) (row_changes Sender 1 (rows_there both.sender) ++ rest_of others) (AnotherRow Sender n)
    (Contains-append_left (row_changes Sender 1 (rows_there both.sender)) (rest_of others) (AnotherRow Sender n) told)

-- what a list has, its image has
map_has : {X Y : Type 0} → (f : X → Y) (xs : List X) (x : X) → Contains xs x → Contains (map f xs) (f x)
map_has f [] x h = absurd (none x h)
map_has f (y ∷ ys) x h = at (λ g. map_has f ys x g) (front_or_behind ys y x h)
  where
    at : (Contains ys x → Contains (map f ys) (f x)) → (y ≡ x) ⊎ Contains ys x → Contains (f y ∷ map f ys) (f x)
    at later (inl e) = subst (λ z. Contains (f y ∷ map f ys) z) (ap f e) (front (map f ys) (f y))
    at later (inr g) = behind (map f ys) (f y) (f x) (later g)

pub each_connection_told : (both : BothTables) (others : List IsnPair) (isns : IsnPair) → Contains others isns → Contains (all_changes both others) (OtherConnection isns)
unfolding rest_of
each_connection_told both others isns h =
    Contains-append_right (row_changes Receiver 1 both.receiver.rows) (row_changes Sender 1 (rows_there both.sender) ++ rest_of others) (OtherConnection isns)
    (Contains-append_right (row_changes Sender 1 (rows_there both.sender)) (rest_of others) (OtherConnection isns)
    (Contains-append_right rowless_changes (map OtherConnection others) (OtherConnection isns) (map_has OtherConnection others isns h)))
