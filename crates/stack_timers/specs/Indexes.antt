-- How the lists of a stack are kept beside tables of their pairs. No public clause cites this file.
use Rattle.std.specs.Prelude.{◌≡◌, ℕ, ◌≤◌, ⊤, List, [], ◌∷◌, length, None}
use Rattle.std.specs.Map.{lookup}
use Rattle.std.specs.BTreeMap.{is_at}
use Rattle.book_base.specs.declared.address.Pair.{Pair}
use Rattle.book_base.specs.Orders.{by_pair}
use Rattle.book_stack.specs.declared.alarm.Alarm.{Alarm}
use Rattle.pair_table.specs.Listings.{Listing}

-- alarms as entries, their deadlines by their pairs (own)
abbrev pub alarm_entries : List Alarm → List (Pair × ℕ)
alarm_entries [] = []
alarm_entries (a ∷ rest) = (a.pair, a.deadline) ∷ alarm_entries rest

-- pairs as entries, with nothing beside them (own)
abbrev pub pair_entries : List Pair → List (Pair × ⊤)
pair_entries [] = []
pair_entries (p ∷ ps) = (p, tt) ∷ pair_entries ps

-- no pair is there twice (own)
abbrev pub Once : {V : Type 0} → List (Pair × V) → Type 0
Once [] = ⊤
Once (e ∷ es) = (lookup (is_at (by_pair e.0)) es ≡ None) × Once es

-- the table finds what stands in the list, in which no pair stands twice, and the list has room for
-- as many as the table (own)
pub record IsKept {V : Type 0} (room : ℕ) (table : Listing V) (es : List (Pair × V)) : Type 0 where
  pub finds : (q : Pair)
      → lookup (is_at (by_pair q)) table.entries ≡ lookup (is_at (by_pair q)) es
  pub once : Once es
  pub same : length table.entries ≡ length es
  pub enough : table.most ≤ room
