-- What an index keeps of a table of sessions (own).
use Rattle.std.specs.Prelude.{◌≡◌, ◌≤◌, ◌<◌, ℕ, suc, List, [], ◌∷◌, ◌++◌, length, get_or}
use Rattle.std.specs.Prelude.{Some, slice_set}
use Rattle.std.specs.declared.vec.Vec.{Vec}
use Rattle.std.specs.Map.{lookup}
use Rattle.std.specs.BTreeMap.{is_at}
use Rattle.std.specs.List.{AllByRecursion}
use Rattle.book_base.specs.declared.address.Socket.{Socket}
use Rattle.book_base.specs.declared.address.Pair.{Pair}
use Rattle.book_base.specs.Orders.{by_pair, sorted_pair}
use Rattle.book_sessions.specs.declared.uses.KeyUse.{KeyUse}
use Rattle.book_sessions.specs.declared.uses.SeenSegment.{SeenSegment}
use Rattle.book_sessions.specs.declared.uses.Signs.{Signs}
use Rattle.book_sessions.specs.Sessions.{first_use, used_again, with_use}
use Rattle.capture_listener.specs.Places.{places_of, number_between}

-- each use is of the session that is known between its sockets (own)
abbrev pub HaveOneSession : List KeyUse → Type 0
HaveOneSession uses = AllByRecursion (λ u. number_between u.source u.destination uses ≡ Some u.session) uses

-- the number of the session between two sockets is found, the sessions have the numbers from 1 on, and the places of
-- the uses of each are kept (own)
pub record IsIndexed (uses : List KeyUse) (groups : List (List ℕ)) (numbers : List (Pair × ℕ)) : Type 0 where
  pub numbered : (a b : Socket) → lookup (is_at (by_pair (sorted_pair a b))) numbers ≡ number_between a b uses
  pub counted : (a b : Socket) (n : ℕ) → number_between a b uses ≡ Some n → (1 ≤ n) × (n ≤ length groups)
  pub one : HaveOneSession uses
  pub placed : (n : ℕ) → n < length groups → get_or groups n [] ≡ places_of (suc n) uses

-- what vectors have (own)
abbrev pub lists_of : {Z : Type 0} → List (Vec ℕ Z) → List (List ℕ)
lists_of [] = []
lists_of (v ∷ vs) = v.items ∷ lists_of vs

-- one more of the segments at a place (own)
abbrev pub CountsAgain : Signs → SeenSegment → (place : ℕ) → (before now : List KeyUse) → Type 0
CountsAgain g s place before now = (d : KeyUse) → now ≡ slice_set before place (used_again g s (get_or before place d))

-- the first of its kind, whose place is put among those of its session (own)
pub record CountsNext (number : ℕ) (g : Signs) (s : SeenSegment) (before now : List KeyUse) (old new : List ℕ) : Type 0 where
  pub uses : now ≡ before ++ first_use number g s ∷ []
  pub places : new ≡ old ++ length before ∷ []

-- a segment of the session of this number was counted, and the index is right (own)
pub record CountsSegment (number : ℕ) (g : Signs) (s : SeenSegment) (before now : List KeyUse) (groups : List (List ℕ)) (numbers : List (Pair × ℕ)) : Type 0 where
  pub uses : now ≡ with_use number g s before
  pub indexed : IsIndexed now groups numbers
