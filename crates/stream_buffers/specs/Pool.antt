-- What a contract sees of a pool: the slots in use, each with its item, in the order of the list.
use Rattle.std.specs.Prelude.{◌≡◌, ℕ, ◌+◌, ◌≤◌, ◌==◌, List, [], ◌∷◌, ◌++◌, length, Option, None, Some, refl, if◌then◌else◌}
use Rattle.std.specs.Coded.{Coded, code_by, coded×, coded_ℕ, coded_list}
use Rattle.stream_buffers.specs.declared.slot.Slot.{Slot}

-- how many items fit, and the items in order, each with its slot (own)
pub record Pool (T : Type 0) : Type 0 where
  pub capacity : ℕ
  pub pairs : List (Slot × T)

-- a slot's index (own)
abbrev pub slot_code : Coded Slot
slot_code = code_by ℕ coded_ℕ (λ s. s.index) (λ n. record { index = n }) (λ _. refl)

-- a pool's fields, one after another (own)
abbrev pub pool_code : {T : Type 0} → Coded T → Coded (Pool T)
pool_code {T} code =
    code_by
    (ℕ × List (Slot × T))
    (coded× coded_ℕ (coded_list (coded× slot_code code)))
    (λ p. (p.capacity, p.pairs))
    (λ p. record { capacity = p.0; pairs = p.1 })
    (λ _. refl)

module _ {T : Type 0} where
  -- a pool of this capacity with these pairs (own)
  abbrev pub pool : ℕ → List (Slot × T) → Pool T
  pool n ps = record { capacity = n; pairs = ps }

  -- the slot of the first pair, if there is one (own)
  abbrev pub first_slot : List (Slot × T) → Option Slot
  first_slot [] = None
  first_slot (p ∷ ps) = Some p.0

  -- the slot of the last pair, or else this one (own)
  abbrev pub last_slot_or : Option Slot → List (Slot × T) → Option Slot
  last_slot_or s [] = s
  last_slot_or s (p ∷ ps) = last_slot_or (Some p.0) ps

  -- the slot of the last pair, if there is one (own)
  abbrev pub last_slot : List (Slot × T) → Option Slot
  last_slot ps = last_slot_or None ps

  -- one pair has the slot (own)
  abbrev pub Holds : List (Slot × T) → Slot → Type 0
  Holds ps s = (before : List (Slot × T)) × (x : T) × (after : List (Slot × T)) × (ps ≡ before ++ (s, x) ∷ after)

  -- what is said of the pairs before a slot, of its item and of the pairs after it (own)
  abbrev pub At : List (Slot × T) → Slot → (List (Slot × T) → T → List (Slot × T) → Type 0) → Type 0
  At ps s P = (before : List (Slot × T)) (x : T) (after : List (Slot × T)) → ps ≡ before ++ (s, x) ∷ after → P before x after

  -- what is said of the pairs up to this slot and of those behind it (own)
  abbrev pub Behind : List (Slot × T) → Option Slot → (List (Slot × T) → List (Slot × T) → Type 0) → Type 0
  Behind ps s P = (before : List (Slot × T)) (after : List (Slot × T)) → ps ≡ before ++ after → last_slot before ≡ s → P before after

  -- how many pairs have a slot (own)
  abbrev pub uses : ℕ → List (Slot × T) → ℕ
  uses k [] = 0
  uses k (p ∷ ps) = (if k == p.0.index then 1 else 0) + uses k ps

  -- no slot is there twice, and the pairs are not more than the capacity (own)
  pub record IsPool (p : Pool T) : Type 0 where
    pub distinct : (s : Slot) → uses s.index p.pairs ≤ 1
    pub fits : length p.pairs ≤ p.capacity
