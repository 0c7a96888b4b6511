-- Items one after another are those of the front and then those behind it: the bound on how many are looked at is no bound where each item takes a byte or more.
use Rattle.std.proofs.Common.{◌≡◌, ℕ, zero, suc, ◌<◌, List, ◌∷◌, length, refl, ap, arith}
use Rattle.book_base.specs.Fronts.{Front, Ends, Faulted, Leads, Fronted, fronted_by, fronted_within, fronted}

-- each item takes a byte or more
pub record Shrinks {A E : Type 0} (front : List ℕ → Front A E) : Type 0 where
  pub shorter : (bytes : List ℕ) (item : A) (rest : List ℕ) → front bytes ≡ Leads item rest → length rest < length bytes

-- an item in front of others
abbrev pub with_item : {A E : Type 0} → A → Fronted A E → Fronted A E
with_item item others = record { items = item ∷ others.items; fault = others.fault }

same_by : {A E : Type 0} (f : Front A E) (one two : List ℕ → Fronted A E) → ((item : A) (rest : List ℕ) → f ≡ Leads item rest → one rest ≡ two rest) → fronted_by f one ≡ fronted_by f two
same_by Ends one two same = refl
same_by (Faulted fault) one two same = refl
same_by (Leads item rest) one two same = ap (with_item item) (same item rest refl)

enough : {A E : Type 0} (front : List ℕ → Front A E) → Shrinks front → (m n : ℕ) (bytes : List ℕ) → length bytes < m → length bytes < n → fronted_within front m bytes ≡ fronted_within front n bytes
enough front shrinks zero n bytes hm hn = absurd (omega arith)
enough front shrinks (suc m) zero bytes hm hn = absurd (omega arith)
enough front shrinks (suc m) (suc n) bytes hm hn =
    same_by (front bytes) (fronted_within front m) (fronted_within front n)
    (λ item rest is. let less = shrinks.shorter bytes item rest is in enough front shrinks m n rest (omega arith) (omega arith))

-- the items of bytes, by what stands at their front
pub fronted_step : {A E : Type 0} (front : List ℕ → Front A E) → Shrinks front → (bytes : List ℕ) → fronted front bytes ≡ fronted_by (front bytes) (fronted front)
fronted_step front shrinks bytes =
    same_by (front bytes) (fronted_within front (length bytes)) (fronted front)
    (λ item rest is. let less = shrinks.shorter bytes item rest is in enough front shrinks (length bytes) (suc (length rest)) rest (omega arith) (omega arith))
