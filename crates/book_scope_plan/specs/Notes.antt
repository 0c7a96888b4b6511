-- What is noted of the rows of a planned rollover, though nothing may be wrong with it. Its top is
-- `notes_text`.
use Rattle.std.specs.Prelude.{ℕ, ◌+◌, ◌-◌, ◌%◌, ◌==◌, ◌&&◌, ◌||◌, not, nat_le, nat_lt, Bool}
use Rattle.std.specs.Prelude.{List, [], ◌∷◌, ◌++◌, length, codes, decimal, Option, Some, None}
use Rattle.std.specs.Prelude.{if◌then◌else◌}
use Rattle.std.specs.List.{list_any}
use Rattle.book_base.specs.declared.address.Pair.{Pair}
use Rattle.book_base.specs.declared.end.End.TheVariants.{B}
use Rattle.book_keys.specs.declared.lifetime.Lifetime.{Lifetime}
use Rattle.book_keys.specs.Lifetimes.{greatest_time}
use Rattle.book_keys.specs.Plans.{accepts_from}
use Rattle.book_keys.specs.Rows.{Row, matches, receives, sends}
use Rattle.book_segments.specs.Bytes.{same_bytes}
use Rattle.book_scope_plan.specs.declared.two_times.TwoTimes.{TwoTimes}
use Rattle.book_scope_plan.specs.DifferenceTexts.{ends_in_feed}
use Rattle.book_scope_plan.specs.FindingTexts.{Facing, facing_at, row_name, text_if}

-- how many bytes a Key has at least that isn't noted as short (own)
abbrev pub least_key : ℕ
least_key = 8

-- both rows send, and the second begins to later (own)
abbrev pub begins_sending_after : (earlier later : Row) → Bool
begins_sending_after r o =
    (sends r.direction && sends o.direction) && nat_lt r.sending.first o.sending.first

-- both rows accept, and the second begins to later (own)
abbrev pub begins_accepting_after : (earlier later : Row) → Bool
begins_accepting_after r o =
    (receives r.direction && receives o.direction) && nat_lt r.accepting.first o.accepting.first

-- the second row begins later to do what both do (own)
abbrev pub begins_later : (earlier later : Row) → Bool
begins_later r o = begins_sending_after r o || begins_accepting_after r o

-- the row never ends to do something that a later one does too (own)
abbrev pub is_left_open : (row later : Row) → Bool
is_left_open r o =
    (begins_sending_after r o && nat_le greatest_time r.sending.last)
    || (begins_accepting_after r o && nat_le greatest_time r.accepting.last)

-- one of the rows is for the connection, is later than this one, and this one never ends (own)
abbrev pub never_ends : Pair → List Row → Row → Bool
never_ends pair rows r = list_any (λ o. matches o pair && is_left_open r o) rows

-- one of the rows is for the connection, is earlier than this one, and has its Key (own)
abbrev pub has_old_key : Pair → List Row → Row → Bool
has_old_key pair rows r =
    list_any (λ o. matches o pair && (begins_later o r && same_bytes o.master r.master)) rows

-- a note on a row, of this name (own)
unfoldable pub note_line : (row words : List ℕ) → List ℕ
note_line row words = codes "  note: " ++ (row ++ words)

-- the line of a note on a row, where it is due (own)
abbrev pub note_if : Bool → (row words : List ℕ) → List ℕ
note_if b row words = text_if b (note_line row words)

-- the notes on the lifetime and the Key of a row, of this name (own)
unfoldable pub row_notes : (row : List ℕ) → Pair → (rows : List Row) → Row → List ℕ
row_notes row pair rows r =
    note_if (never_ends pair rows r) row (codes " never ends, though a later row is there\n")
    ++ (note_if (has_old_key pair rows r) row (codes " has the Key of an earlier row\n")
    ++ (note_if (nat_lt (length r.master) least_key) row (codes " has a Key under 8 bytes\n")
    ++ note_if (ends_in_feed r.master) row (codes " has a Key that ends in 0a, a line feed\n")))

-- the notes on the rows of a node that are for the connection, the first row having number n (own)
abbrev pub rows_notes : Facing → (first : ℕ) → List Row → List ℕ
rows_notes f n [] = []
rows_notes f n (r ∷ rs) =
    text_if (matches r f.pair)
    (row_notes (row_name f.document f.node.name n) f.pair f.node.rows r)
    ++ rows_notes f (n + 1) rs

-- a column's times at two ends, unless it is absent at both (own)
abbrev pub column_times : (absent one other : ℕ) → List TwoTimes
column_times absent x y =
    if (x == absent) && (y == absent) then [] else record { one = x; other = y } ∷ []

-- the times of two lifetimes (RFC 7210, section 2)
abbrev pub lifetime_times : (one other : Lifetime) → List TwoTimes
lifetime_times l m =
    column_times 0 l.first m.first ++ column_times greatest_time l.last m.last

-- the times of two rows of which the second accepts what the first sends (own)
abbrev pub row_times : Pair → (sending other : Row) → List TwoTimes
row_times pair r o =
    if accepts_from pair r o
    then lifetime_times r.sending o.sending ++ lifetime_times r.accepting o.accepting
    else []

-- the times of a row and each row of the other end that accepts what it sends (own)
abbrev pub times_beside : Pair → Row → (others : List Row) → List TwoTimes
times_beside pair r [] = []
times_beside pair r (o ∷ os) = row_times pair r o ++ times_beside pair r os

-- the times of all such rows (own)
abbrev pub all_times : Pair → (rows others : List Row) → List TwoTimes
all_times pair [] others = []
all_times pair (r ∷ rs) others = times_beside pair r others ++ all_times pair rs others

-- the second time isn't so much later (own)
abbrev pub is_off : ℕ → TwoTimes → Bool
is_off seconds t = not (t.other == t.one + seconds)

-- by how many seconds the second times are later: all by the same, which are whole hours (own)
abbrev pub shift_of : List TwoTimes → Option ℕ
shift_of [] = None
shift_of (t ∷ ts) =
    if nat_lt t.one t.other && (((t.other - t.one) % 3600 == 0)
    && not (list_any (is_off (t.other - t.one)) ts))
    then Some (t.other - t.one) else None

-- that all times of a node are so much later than another's, as where one is in local time (own)
unfoldable pub shift_line : (name later : List ℕ) → ℕ → List ℕ
shift_line name later seconds =
    codes "  note: " ++ (later ++ (codes "'s times are all " ++ (decimal seconds
    ++ (codes " s later than " ++ (name ++ codes "'s\n")))))

-- the line, where they are (own)
abbrev pub shift_text : (name later : List ℕ) → Option ℕ → List ℕ
shift_text name later None = []
shift_text name later (Some seconds) = shift_line name later seconds

-- the notes on the rows of a node, and on those of the other end where they are later (own)
abbrev pub side_notes : Facing → List ℕ
side_notes f =
    rows_notes f 1 f.node.rows
    ++ shift_text f.node.name f.other.name (shift_of (all_times f.pair f.node.rows f.other.rows))

-- the notes on both ends of a connection, which is given as end a sees it (own)
unfoldable pub notes_text : Facing → List ℕ
notes_text f = side_notes f ++ side_notes (facing_at B f)
