-- What is written of the calendar of a planned rollover: a line for each turn that an operator asks
-- for, and one for both ends where they turn alike. Its top is `calendar_text`.
use Rattle.std.specs.Prelude.{ℕ, ◌-◌, ◌==◌, ◌&&◌, ◌||◌, not, nat_lt, Bool, true, false, List, []}
use Rattle.std.specs.Prelude.{◌∷◌, ◌++◌, slice_get, codes, decimal, Option, Some, None}
use Rattle.std.specs.List.{list_any}
use Rattle.book_base.specs.declared.end.End.{End}
use Rattle.book_base.specs.declared.end.End.TheVariants.{A, B}
use Rattle.book_keys.specs.Rows.{Row, Table, receives, sends}
use Rattle.book_plans.specs.declared.turn.Role.{Role}
use Rattle.book_plans.specs.declared.turn.Role.TheVariants.{Acceptable, AskedFor, Sendable}
use Rattle.book_plans.specs.declared.turn.Role.TheVariants.{SentWith}
use Rattle.book_plans.specs.declared.turn.Turn.{Turn}
use Rattle.book_scope_texts.specs.Instants.{instant_text}
use Rattle.book_segments.specs.Bytes.{same_bytes}
use Rattle.book_scope_plan.specs.declared.told.Told.{Told}

-- of two values, that of this end (own)
abbrev pub side_of : {V : Type 0} → End → (a b : V) → V
side_of A a b = a
side_of B a b = b

-- the row of this number, from 1 (own)
abbrev pub row_numbered : List Row → ℕ → Option Row
row_numbered rows n = slice_get rows (n - 1)

-- what is said of a turn in front of the row's number; nothing where it follows from others: that
-- a row isn't asked for any more, and with which one a connection begins to send (RFC 7210,
-- section 3, and own)
abbrev pub turn_words : Role → (begins : Bool) → Option (List ℕ)
turn_words Acceptable true = Some (codes " accepts row ")
turn_words Acceptable false = Some (codes " no longer accepts row ")
turn_words AskedFor true = Some (codes " asks for row ")
turn_words Sendable true = Some (codes " may send with row ")
turn_words Sendable false = Some (codes " no longer sends with row ")
turn_words _ _ = None

-- the id under which a row has a role: RecvID where it accepts, and SendID where it sends (RFC
-- 5925, section 3.1)
abbrev pub id_for : Role → Row → ℕ
id_for Acceptable r = r.recv_id
id_for AskedFor r = r.recv_id
id_for Sendable r = r.send_id
id_for SentWith r = r.send_id

-- at the time the row has ended to send, and to accept (RFC 7210, section 2)
abbrev pub is_spent : ℕ → Row → Bool
is_spent time r =
    (not (sends r.direction) || nat_lt r.sending.last time)
    && (not (receives r.direction) || nat_lt r.accepting.last time)

-- what is added where a row is used no more (own)
abbrev pub spent_text : Bool → List ℕ
spent_text true = codes ": it may be removed"
spent_text false = []

-- what is said of a row's turn behind the name of the node (own)
abbrev pub row_turn_text : List ℕ → Turn → Row → List ℕ
row_turn_text words t r =
    words ++ (decimal t.row ++ (codes " (KeyID " ++ (decimal (id_for t.role r)
    ++ (codes ")" ++ (spent_text (is_spent t.time r) ++ 10 ∷ [])))))

-- the turn as it is told (own)
abbrev pub told_with : Option (List ℕ) → Option Row → Turn → List Told
told_with (Some words) (Some r) t =
    record { time = t.time; end = t.end; text = row_turn_text words t r } ∷ []
told_with _ _ t = []

-- the turns of the tables of two ends as they are told (own)
abbrev pub told_turns : (a b : Table) → List Turn → List Told
told_turns a b [] = []
told_turns a b (t ∷ ts) =
    told_with (turn_words t.role t.begins) (row_numbered (side_of t.end a b).rows t.row) t
    ++ told_turns a b ts

-- the two are the two ends (own)
abbrev pub are_both_ends : (one other : End) → Bool
are_both_ends A end = side_of end false true
are_both_ends B end = side_of end true false

-- the same turn at the other end (own)
abbrev pub is_twin : (one other : Told) → Bool
is_twin one two =
    are_both_ends one.end two.end && ((one.time == two.time) && same_bytes one.text two.text)

-- the line of a turn: when, whose, and what (own)
abbrev pub told_line : (name : List ℕ) → Told → List ℕ
told_line name t = codes "  " ++ (instant_text t.time ++ (32 ∷ (name ++ t.text)))

-- the name of a node, or those of both where both turn (own)
abbrev pub turning_name : (a b : Table) → End → (both : Bool) → List ℕ
turning_name a b end false = (side_of end a b).name
turning_name a b end true = a.name ++ (codes ", " ++ b.name)

-- the line of a turn; of two alike at both ends the one at a has it (own)
abbrev pub calendar_line : (a b : Table) → (all : List Told) → Told → List ℕ
calendar_line a b all t = by_twin (list_any (is_twin t) all) t.end
  where
    by_twin : Bool → End → List ℕ
    by_twin true B = []
    by_twin both end = told_line (turning_name a b end both) t

-- the lines of some turns among all (own)
abbrev pub calendar_lines : (a b : Table) → (all some : List Told) → List ℕ
calendar_lines a b all [] = []
calendar_lines a b all (t ∷ ts) = calendar_line a b all t ++ calendar_lines a b all ts

-- the lines of the turns of the tables of two ends (own)
abbrev pub calendar_text : (a b : Table) → List Turn → List ℕ
calendar_text a b turns = calendar_lines a b (told_turns a b turns) (told_turns a b turns)
