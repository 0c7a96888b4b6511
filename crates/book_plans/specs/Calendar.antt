-- The calendar of a planned rollover: when each row begins and ends to be used, and how. Its top
-- is `calendar_of`.
use Rattle.std.specs.Prelude.{◌≡◌, ℕ, zero, suc, ◌+◌, ◌-◌, ◌==◌, Bool, true, false, List, [], ◌∷◌}
use Rattle.std.specs.Prelude.{◌++◌, Option, Some, None}
use Rattle.book_base.specs.declared.address.Pair.{Pair}
use Rattle.book_base.specs.declared.end.End.{End}
use Rattle.book_base.specs.declared.end.End.TheVariants.{A, B}
use Rattle.book_plans.specs.declared.turn.Role.{Role}
use Rattle.book_plans.specs.declared.turn.Role.TheVariants.{Acceptable, AskedFor, Sendable}
use Rattle.book_plans.specs.declared.turn.Role.TheVariants.{SentWith}
use Rattle.book_plans.specs.declared.turn.Turn.{Turn}
use Rattle.book_keys.specs.Choices.{send_row, next_row}
use Rattle.book_keys.specs.Lifetimes.{contains}
use Rattle.book_keys.specs.Lookups.{number_of}
use Rattle.book_keys.specs.Plans.{mirrored, rows_at}
use Rattle.book_keys.specs.Rows.{Row, Table, sendable, acceptable}

-- the row that was found has this number (own)
abbrev pub is_number : ℕ → Option ℕ → Bool
is_number n None = false
is_number n (Some found) = found == n

-- an end of a connection whose change is planned: its rows, and the pair as it sees it (own)
pub record PlannedEnd : Type 0 where
  pub end : End
  pub rows : List Row
  pub pair : Pair

-- an end with these rows that sees the pair so (own)
abbrev pub planned : End → List Row → Pair → PlannedEnd
planned end rows pair = record { end = end; rows = rows; pair = pair }

-- the row of this number has the role at the time (RFC 7210, section 3, and own)
abbrev pub has_role : PlannedEnd → (number time : ℕ) → Row → Role → Bool
has_role e n time r Acceptable = acceptable e.pair time r
has_role e n time r AskedFor = is_number n (number_of (next_row e.rows e.pair time))
has_role e n time r Sendable = sendable e.pair time r
has_role e n time r SentWith = is_number n (number_of (send_row e.rows e.pair time))

-- at the time a row of this end and number begins to have the role, or ceases to (own)
abbrev pub turn_at : End → (time number : ℕ) → Role → (begins : Bool) → Turn
turn_at end time n role begins = record {
  time = time;
  end = end;
  row = n;
  role = role;
  begins = begins;
}

-- the turn by whether something is so before and now: it begins, it ends, or there is none (own)
abbrev pub turn_by : (before now : Bool) → (Bool → Turn) → List Turn
turn_by false true turn = turn true ∷ []
turn_by true false turn = turn false ∷ []
turn_by before now turn = []

-- the turn of a row and a role in the second after this time (own)
abbrev pub role_turn : PlannedEnd → (time number : ℕ) → Row → Role → List Turn
role_turn e time n r role =
    turn_by (has_role e n time r role) (has_role e n (time + 1) r role)
    (turn_at e.end (time + 1) n role)

-- the turns of a row in the second after this time (own)
abbrev pub row_turns : PlannedEnd → (time number : ℕ) → Row → List Turn
row_turns e time n r =
    role_turn e time n r Acceptable
    ++ (role_turn e time n r AskedFor
    ++ (role_turn e time n r Sendable
    ++ role_turn e time n r SentWith))

-- the turns of some of the rows of an end in the second after this time, the first having number
-- n (own)
abbrev pub turns_from : PlannedEnd → (time first : ℕ) → List Row → List Turn
turns_from e time n [] = []
turns_from e time n (r ∷ rs) = row_turns e time n r ++ turns_from e time (n + 1) rs

-- the turns at both ends in the second after this time (own)
abbrev pub turns_after : (a_rows b_rows : List Row) → Pair → ℕ → List Turn
turns_after a b pair time =
    turns_from (planned A a pair) time 1 a ++ turns_from (planned B b (mirrored pair)) time 1 b

-- the turns at both ends in so many seconds after this time (own)
abbrev pub turns_in : (a_rows b_rows : List Row) → Pair → (time count : ℕ) → List Turn
turns_in a b pair time zero = []
turns_in a b pair time (suc n) = turns_after a b pair time ++ turns_in a b pair (time + 1) n

-- neither lifetime of a row begins or ends in the second after the time (RFC 7210, section 3)
pub record Keeps (time : ℕ) (r : Row) : Type 0 where
  pub sending : contains r.sending time ≡ contains r.sending (time + 1)
  pub accepting : contains r.accepting time ≡ contains r.accepting (time + 1)

-- all turns after one time until another, at both ends of a connection, in order (own)
abbrev pub calendar_of : List Table → Pair → (low high : ℕ) → List Turn
calendar_of tables pair low high =
    turns_in (rows_at tables pair.local.address) (rows_at tables pair.remote.address) pair low
    (high - low)
