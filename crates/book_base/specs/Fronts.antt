-- Items one after another from the front of bytes: options of an area, packets of a file and
-- messages of a stream are read so. `fronted` is the file's top. Our own.
use Rattle.std.specs.Prelude.{ℕ, zero, suc, List, [], ◌∷◌, length, Option, Some, None}

-- what stands at the front of bytes: no item, a fault, or an item and the bytes behind it (own)
pub data Front (A E : Type 0) : Type 0 where
  Ends : Front A E
  Faulted : (fault : E) → Front A E
  Leads : (item : A) (rest : List ℕ) → Front A E

-- the items that stand one after another, and the fault behind them, where there is one (own)
pub record Fronted (A E : Type 0) : Type 0 where
  pub items : List A
  pub fault : Option E

-- what stands one after another where this is the front, and what stands behind an item is handed
-- in (own)
abbrev pub fronted_by : {A E : Type 0} → Front A E → (List ℕ → Fronted A E) → Fronted A E
fronted_by Ends others = record { items = []; fault = None }
fronted_by (Faulted fault) others = record { items = []; fault = Some fault }
fronted_by (Leads item rest) others =
    record { items = item ∷ (others rest).items; fault = (others rest).fault }

-- what stands one after another, of which so many fronts are looked at (own)
abbrev pub fronted_within : {A E : Type 0} →
    (List ℕ → Front A E) → ℕ → List ℕ → Fronted A E
fronted_within front zero bytes = record { items = []; fault = None }
fronted_within front (suc n) bytes = fronted_by (front bytes) (fronted_within front n)

-- as many items as stand one after another from the front of bytes on, and the fault behind them:
-- where each item takes a byte or more, there are no more fronts than bytes and one (own)
abbrev pub fronted : {A E : Type 0} → (List ℕ → Front A E) → List ℕ → Fronted A E
fronted front bytes = fronted_within front (suc (length bytes)) bytes
