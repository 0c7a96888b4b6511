-- What is written of each thing that doesn't hold of a planned rollover, and of the ways out:
-- another lifetime of one row, or what stands in its way. Its top is `finding_text`.
use Rattle.std.specs.Prelude.{ℕ, ◌+◌, ◌-◌, ◌==◌, ◌&&◌, ◌||◌, not, nat_lt, Bool, true, false, List}
use Rattle.std.specs.Prelude.{[], ◌∷◌, ◌++◌, codes, decimal, Option, Some, None, if◌then◌else◌}
use Rattle.book_base.specs.declared.address.Pair.{Pair}
use Rattle.book_keys.specs.declared.lifetime.Lifetime.{Lifetime}
use Rattle.book_keys.specs.declared.plan.Plan.{Plan}
use Rattle.book_keys.specs.declared.direction.Direction.{Direction}
use Rattle.book_keys.specs.Overlaps.{lifetimes_meet}
use Rattle.book_keys.specs.Rows.{Row, matches, sends, sends_for}
use Rattle.book_plans.specs.declared.finding.Finding.{Finding}
use Rattle.book_plans.specs.declared.finding.Finding.TheVariants as finding
use Rattle.book_plans.specs.declared.obstacle.Obstacle.{Obstacle}
use Rattle.book_plans.specs.declared.obstacle.Obstacle.TheVariants as obstacle
use Rattle.book_plans.specs.Differences.{differences, is_alike}
use Rattle.book_plans.specs.Ways.{Side, accepting_obstacle, fitting_accepting, fitting_sending}
use Rattle.book_plans.specs.Ways.{sending_obstacle}
use Rattle.book_scope_texts.specs.Instants.{key_time_text}
use Rattle.book_scope_plan.specs.declared.gap_seconds.GapSeconds.{GapSeconds}
use Rattle.book_scope_plan.specs.CalendarTexts.{row_numbered}
use Rattle.book_scope_plan.specs.DifferenceTexts.{direction_name, refused_text}
use Rattle.book_scope_plan.specs.FindingTexts.{Facing, facing_at, lifetime_lines}
use Rattle.book_scope_plan.specs.FindingTexts.{row_name, seconds_text, short_words, text_if}
use Rattle.book_scope_plan.specs.FindingTexts.{times_text, unmet_line}

-- a column of a row, and a time (RFC 7210, section 2, and own)
unfoldable pub set_text : (column row : List ℕ) → (time : ℕ) → List ℕ
set_text column row time = column ++ (codes " of " ++ (row ++ (codes " to " ++ key_time_text time)))

-- the columns of a lifetime that change, by their names, and to which times (own)
unfoldable pub moved_text : (start end row : List ℕ) → (before after : Lifetime) → List ℕ
moved_text start end row l m =
    text_if (not (l.first == m.first)) (set_text start row m.first)
    ++ (text_if (not (l.first == m.first) && not (l.last == m.last)) (codes " and ")
    ++ text_if (not (l.last == m.last)) (set_text end row m.last))

-- why another lifetime of a row won't do (own)
unfoldable pub obstacle_text : Obstacle → List ℕ
obstacle_text obstacle.Empty = codes "it would end before it begins"
obstacle_text obstacle.Endless = codes "that is the last time of all, so it would never end"
obstacle_text (obstacle.Overlap n) = codes "it would overlap row " ++ decimal n
obstacle_text obstacle.Refused = codes "the other end wouldn't take it for long enough"
obstacle_text obstacle.Gap = codes "at some time no row would be left to send with"

-- a change is to be made, where one was told before or not (own)
unfoldable pub set_words : (told : Bool) → List ℕ
set_words true = codes "    or set "
set_words false = codes "    set "

-- a change that mends, or what stands in its way (own)
unfoldable pub way_line : (told : Bool) → (change : List ℕ) → Option Obstacle → List ℕ
way_line told change None = set_words told ++ (change ++ 10 ∷ [])
way_line told change (Some o) =
    codes "    moving " ++ (change ++ (codes " won't do: " ++ (obstacle_text o ++ 10 ∷ [])))

-- nothing stands in the way (own)
abbrev pub is_clear : Option Obstacle → Bool
is_clear None = true
is_clear (Some o) = false

-- the end of a connection that sees it so (own)
abbrev pub side_facing : Facing → Side
side_facing f = record {
  rows = f.node.rows;
  others = f.other.rows;
  pair = f.pair;
  plan = f.plan;
}

-- what stands in the way of a row's other send lifetime (own)
abbrev pub sending_way : Facing → ℕ → Row → Lifetime → Option Obstacle
sending_way f n r l = sending_obstacle (side_facing f) n r l

-- another send lifetime of a row of the node, of this number, as a way out (own)
unfoldable pub sending_line : Facing → (told : Bool) → ℕ → Row → Lifetime → List ℕ
sending_line f told n r l =
    way_line told
    (moved_text (codes "SendLifetimeStart") (codes "SendLifetimeEnd")
    (row_name f.document f.node.name n) r.sending l) (sending_way f n r l)

-- another accept lifetime of a row of the other end, of this number, as a way out (own)
unfoldable pub accepting_line : Facing → (told : Bool) → ℕ → (other : Row) → Lifetime → List ℕ
accepting_line f told n o l =
    way_line told
    (moved_text (codes "AcceptLifetimeStart") (codes "AcceptLifetimeEnd")
    (row_name f.document f.other.name n) o.accepting l) (accepting_obstacle f.other.rows n o l)

-- a row that sends and its number (own)
pub record SentRow : Type 0 where
  pub number : ℕ
  pub row : Row

-- the shorter life of a row that sends is a way out (own)
abbrev pub may_shorten : Facing → SentRow → (other : Row) → Bool
may_shorten f s o =
    is_clear (sending_way f s.number s.row (fitting_sending f.plan.lead f.plan.lag s.row o))

-- the longer life of the other end's row, of this number, is a way out (own)
abbrev pub may_lengthen : Facing → SentRow → ℕ → (other : Row) → Bool
may_lengthen f s k o =
    is_clear
    (accepting_obstacle f.other.rows k o (fitting_accepting f.plan.lead f.plan.lag s.row o))

-- what a row of the other end lacks, and the two ways out, the shorter life first (own)
unfoldable pub two_ways : Facing → SentRow → (told : Bool) → ℕ → (other : Row) → List ℕ
two_ways f s told k o =
    lifetime_lines f k s.row o
    ++ (sending_line f told s.number s.row (fitting_sending f.plan.lead f.plan.lag s.row o)
    ++ accepting_line f (told || may_shorten f s o) k o
    (fitting_accepting f.plan.lead f.plan.lag s.row o))

-- a way out was told, behind the lines of a row of the other end (own)
abbrev pub told_after : Facing → SentRow → (told : Bool) → ℕ → (other : Row) → Bool
told_after f s told k o =
    if is_alike (differences f.pair s.row o)
    then (told || may_shorten f s o) || may_lengthen f s k o
    else told

-- the lines of the rows of the other end that accept what a row sends, the first having number k;
-- at the end, where no way out is told, that there is none (own)
abbrev pub accepting_lines : Facing → SentRow → (told : Bool) → (first : ℕ) → List Row → List ℕ
accepting_lines f s told k [] =
    text_if (not told) (codes "    none of these changes will do\n")
accepting_lines f s told k (o ∷ os) =
    text_if (is_alike (differences f.pair s.row o)) (two_ways f s told k o)
    ++ accepting_lines f s (told_after f s told k o) (k + 1) os

-- what is said of a row that no row of the other end accepts for long enough: when those accept
-- that do, and what to set (own)
abbrev pub short_text : Facing → ℕ → Option Row → List ℕ
short_text f n None = []
short_text f n (Some r) =
    unmet_line f n r short_words
    ++ accepting_lines f (record { number = n; row = r }) false 1 f.other.rows

-- a row ends just before a gap, or before one that begins where the plan does (own)
abbrev pub ends_before : Plan → GapSeconds → Row → Bool
ends_before plan g r =
    nat_lt r.sending.last g.first
    && ((g.first - r.sending.last == 1) || (g.first == plan.from))

-- a row begins just after a gap, or after one that ends where the plan does (own)
abbrev pub begins_after : Plan → GapSeconds → Row → Bool
begins_after plan g r =
    nat_lt g.last r.sending.first
    && ((r.sending.first - g.last == 1) || (g.last == plan.to))

-- when a row beside a gap would send that goes on over it (own)
abbrev pub sending_over : Plan → GapSeconds → Row → Option Lifetime
sending_over plan g r =
    if ends_before plan g r then Some (record { first = r.sending.first; last = g.last })
    else if begins_after plan g r then Some (record { first = g.first; last = r.sending.last })
    else None

-- the same of a row that sends over the connection (own)
abbrev pub longer_over : Facing → GapSeconds → Row → Option Lifetime
longer_over f g r = if sends_for f.pair r then sending_over f.plan g r else None

-- the longer life of a row of this number, if any, as a way out (own)
abbrev pub longer_line : Facing → (told : Bool) → ℕ → Row → Option Lifetime → List ℕ
longer_line f told n r None = []
longer_line f told n r (Some l) = sending_line f told n r l

-- a way out was told, behind the line of a row's longer life, if any (own)
abbrev pub told_longer : Facing → (told : Bool) → ℕ → Row → Option Lifetime → Bool
told_longer f told n r None = told
told_longer f told n r (Some l) = told || is_clear (sending_way f n r l)

-- the lines of the rows beside a gap, the first having number n; at the end, where no way out is
-- told, that there is none (own)
abbrev pub gap_lines : Facing → GapSeconds → (told : Bool) → (first : ℕ) → List Row → List ℕ
gap_lines f g told n [] = text_if (not told) (codes "    no row beside it can send over it\n")
gap_lines f g told n (r ∷ rs) =
    longer_line f told n r (longer_over f g r)
    ++ gap_lines f g (told_longer f told n r (longer_over f g r)) (n + 1) rs

-- the line of a gap (RFC 7210, section 3, and own)
unfoldable pub gap_line : (name : List ℕ) → GapSeconds → List ℕ
gap_line name g =
    codes "  WRONG " ++ (name ++ (codes " has no row to send with from "
    ++ (times_text g.first g.last ++ seconds_text g.first g.last)))

-- for the connection a row could send in some second of a gap, but for its Direction (RFC 7210,
-- section 2, and own)
abbrev pub is_kept_from : Pair → GapSeconds → Row → Bool
is_kept_from pair g r =
    matches r pair && (not (sends r.direction)
    && lifetimes_meet r.sending (record { first = g.first; last = g.last }))

-- that the Direction of a row, of this name, keeps it from sending (own)
unfoldable pub kept_line : (row : List ℕ) → Direction → List ℕ
kept_line row d =
    codes "    " ++ (row ++ (codes " isn't for sending: its Direction is " ++ (direction_name d
    ++ 10 ∷ [])))

-- the lines of the rows that their Direction alone keeps from sending in a gap, the first row
-- having number n (own)
abbrev pub kept_lines : Facing → GapSeconds → (first : ℕ) → List Row → List ℕ
kept_lines f g n [] = []
kept_lines f g n (r ∷ rs) =
    text_if (is_kept_from f.pair g r)
    (kept_line (row_name f.document f.node.name n) r.direction)
    ++ kept_lines f g (n + 1) rs

-- what is said of a gap, and what to set (own)
abbrev pub gap_text : Facing → GapSeconds → List ℕ
gap_text f g =
    gap_line f.node.name g
    ++ (kept_lines f g 1 f.node.rows ++ gap_lines f g false 1 f.node.rows)

-- what is said of a finding on a connection, which is given as end a sees it (own)
abbrev pub finding_text : Facing → Finding → List ℕ
finding_text f (finding.NoPeerRow end n) =
    refused_text (facing_at end f) n (row_numbered (facing_at end f).node.rows n)
finding_text f (finding.ShortAccept end n) =
    short_text (facing_at end f) n (row_numbered (facing_at end f).node.rows n)
finding_text f (finding.Gap end first last) =
    gap_text (facing_at end f) (record { first = first; last = last })
