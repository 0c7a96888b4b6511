-- How a pool lies in its three lists of nodes. No public clause cites this module.
use Rattle.std.specs.Prelude.{◌≡◌, ℕ, zero, suc, ◌+◌, ◌==◌, nat_lt, List, [], ◌∷◌, length, slice_index, slice_index_or, Option, None, Some, if◌then◌else◌}
use Rattle.stream_buffers.specs.declared.slot.Slot.{Slot}
use Rattle.stream_buffers.specs.Pool.{Pool, pool, uses}

-- two nodes are neighbours (own)
abbrev pub Joined : List ℕ → List ℕ → ℕ → ℕ → Type 0
Joined next prev a b = (slice_index next a ≡ b) × (slice_index prev b ≡ a)

-- unused nodes from this one on, each naming the next, up to the end (own)
abbrev pub Spare : List ℕ → ℕ → List ℕ → ℕ → Type 0
Spare next at [] end = at ≡ end
Spare next at (f ∷ fs) end = (at ≡ f) × Spare next (slice_index next f) fs end

-- how often a node is among these (own)
abbrev pub count_of : ℕ → List ℕ → ℕ
count_of k [] = 0
count_of k (f ∷ fs) = (if k == f then 1 else 0) + count_of k fs

-- the node of a slot; the end where there is none (own)
abbrev pub node_of : ℕ → Option Slot → ℕ
node_of end None = end
node_of end (Some s) = s.index

-- the slot of a node; none at the end (own)
abbrev pub slot_of : ℕ → ℕ → Option Slot
slot_of end node = if node == end then None else Some (record { index = node })

module _ {T : Type 0} where
  -- from node a through the nodes of these pairs, which have their items, to node b (own)
  abbrev pub Links : List (Option T) → List ℕ → List ℕ → ℕ → List (Slot × T) → ℕ → Type 0
  Links items next prev a [] b = Joined next prev a b
  Links items next prev a (p ∷ ps) b =
      Joined next prev a p.0.index × (slice_index_or items p.0.index None ≡ Some p.1) × Links items next prev p.0.index ps b

  -- where a node has an item, its pair in front of the rest (own)
  abbrev pub pair_before : ℕ → Option T → List (Slot × T) → List (Slot × T)
  pair_before at None rest = []
  pair_before at (Some x) rest = (record { index = at }, x) ∷ rest

  -- the pairs from a node on, at most so many, up to a node without an item (own)
  abbrev pub walk : List (Option T) → List ℕ → ℕ → ℕ → List (Slot × T)
  walk items next zero at = []
  walk items next (suc n) at =
      pair_before at (slice_index_or items at None) (walk items next n (slice_index next at))

  -- these pairs lie in the circle of the used nodes, and these nodes are the unused ones; the node at index `capacity` has no item, closes the circle and ends the unused ones (own)
  pub record Layout (capacity : ℕ) (items : List (Option T)) (next prev : List ℕ) (free : ℕ) (used : List (Slot × T)) (spare : List ℕ) : Type 0 where
    pub items_length : length items ≡ capacity + 1
    pub next_length : length next ≡ capacity + 1
    pub prev_length : length prev ≡ capacity + 1
    pub end : slice_index_or items capacity None ≡ None
    pub circle : Links items next prev capacity used capacity
    pub unused : Spare next free spare capacity
    pub each : (k : ℕ) → uses k used + count_of k spare ≡ (if nat_lt k capacity then 1 else 0)
    pub total : length used + length spare ≡ capacity

  -- some pairs and some unused nodes lie so (own)
  pub record IsLinked (capacity : ℕ) (items : List (Option T)) (next prev : List ℕ) (free : ℕ) : Type 0 where
    pub used : List (Slot × T)
    pub spare : List ℕ
    pub layout : Layout capacity items next prev free used spare

  -- what is seen of the nodes (own)
  abbrev pub seen : ℕ → List (Option T) → List ℕ → Pool T
  seen capacity items next = pool capacity (walk items next capacity (slice_index next capacity))
