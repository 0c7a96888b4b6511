-- What a link begins with: two addresses of one family that differ, and the table of each.
use Rattle.std.proofs.Common.{◌≡◌, ℕ, ◌+◌, Bool, true, false, not, List, [], ◌∷◌, Option, Some, None, if◌then◌else◌, refl, sym, ap, ◌∙◌, add-one}
use Rattle.std.specs.List.{find}
use Rattle.std.specs.Prelude.{slice_set}
use Rattle.book_base.specs.declared.address.Address.{Address}
use Rattle.book_base.specs.declared.address.Address.TheVariants.{V4, V6}
use Rattle.book_segments.specs.Sockets.{are_two_of_a_family, same_address}
use Rattle.book_segments.proofs.Fields.{and_tells, same_bytes_tells}
use Rattle.book_keys.specs.Plans.{rows_at, rows_of_table}
use Rattle.book_keys.specs.Rows.{Table, has_address}
use Rattle.key_table.specs.Loans.{place_of}
use Rattle.book_base.specs.Addresses.{same_family}
use Rattle.book_segments.proofs.SocketLaws.{same_address_is}

-- ---- the addresses

-- addresses that differ within a family are of one
pub family_is : (a b : Address) → are_two_of_a_family a b ≡ true → same_family a b ≡ true
family_is a b e = (and_tells (same_family a b) (not (same_address a b)) e).0

turned : (one two : Address) → same_family one two ≡ true → same_family two one ≡ true
turned (V4 a) (V4 b) e = refl
turned (V6 a) (V6 b) e = refl
turned (V4 a) (V6 b) e = absurd (cc)
turned (V6 a) (V4 b) e = absurd (cc)

-- and so they are seen from the other end
pub family_back : (a b : Address) → are_two_of_a_family a b ≡ true → same_family b a ≡ true
family_back a b e = turned a b (family_is a b e)

-- addresses of a family that differ aren't the same
pub apart : (a b : Address) → are_two_of_a_family a b ≡ true → same_address a b ≡ false
apart a b e = sym (not-not (same_address a b)) ∙ ap not (and_tells (same_family a b) (not (same_address a b)) e).1
  where
    not-not : (t : Bool) → not (not t) ≡ t
    not-not true = refl
    not-not false = refl

-- ---- the tables

module _ (address other : Address) (left : Table) (here : left.address ≡ address) (differ : same_address address other ≡ false) where
  left_differs : has_address other left ≡ false
  left_differs = ap (λ (x : Address). same_address x other) here ∙ differ

  kept_if : (b : Bool) (t : Table) (ts : List Table) → has_address address t ≡ b
      → find (has_address other) (slice_set ts (place_of address ts) left) ≡ find (has_address other) ts
      → find (has_address other) (slice_set (t ∷ ts) (if b then 0 else place_of address ts + 1) left) ≡ find (has_address other) (t ∷ ts)
  kept_if true t ts is rest =
      let own : has_address other t ≡ false = ap (λ (x : Address). same_address x other) (same_address_is t.address address is) ∙ differ in
      rw (left_differs, own) refl
  kept_if false t ts is rest = rw (add-one (place_of address ts)) (ap (λ (o : Option Table). if has_address other t then Some t else o) rest)

  kept_found : (ts : List Table) → find (has_address other) (slice_set ts (place_of address ts) left) ≡ find (has_address other) ts
  kept_found [] = refl
  kept_found (t ∷ ts) = kept_if (has_address address t) t ts refl (kept_found ts)

  -- what is left in place of a table changes no other node's rows
  pub others_kept : (ts : List Table) → rows_at (slice_set ts (place_of address ts) left) other ≡ rows_at ts other
  others_kept ts = ap rows_of_table (kept_found ts)
