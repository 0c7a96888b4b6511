-- Which texts of the words of `aoscope` are refused, and why: of several faults the first one in
-- the order that stands here.
use Rattle.std.specs.Prelude.{ℕ, Bool, ◌||◌, nat_lt, nat_le, if◌then◌else◌, List, Option, Some}
use Rattle.std.specs.Prelude.{None, Result, Ok, Err}
use Rattle.book_base.specs.Decimals.{decimal_of}
use Rattle.book_base.specs.Results.{◌>>=◌, or_fault}
use Rattle.book_keys.specs.Lifetimes.{greatest_time}
use Rattle.book_keys.specs.declared.plan.Plan.{Plan}
use Rattle.book_draw.specs.declared.span.DrawnTime.{DrawnTime}
use Rattle.book_scope_texts.specs.Durations.{duration_of}
use Rattle.book_scope_texts.specs.Instants.{instant_of}
use Rattle.book_scope_run.specs.declared.halt.Argument.{Argument}
use Rattle.book_scope_run.specs.declared.halt.Argument.TheVariants.{Lead, Lag, From, To, N}
use Rattle.book_scope_run.specs.declared.halt.Wanted.TheVariants.{LengthOfTime, Time, Laps}
use Rattle.book_scope_run.specs.declared.halt.Wanted.TheVariants.{SessionNumber, PacketNumber}
use Rattle.book_scope_run.specs.declared.halt.Misuse.TheVariants.{LongLead, LongLag, FromAfterTo}
use Rattle.book_scope_run.specs.declared.halt.Misuse.TheVariants.{DrawAndTable, RetireAndMore}
use Rattle.book_scope_run.specs.declared.halt.Halt.{Halt}
use Rattle.book_scope_run.specs.declared.halt.Halt.TheVariants.{IsNo, Misused}

-- the length of time that the text of this argument writes (own)
abbrev pub length_by : Argument → List ℕ → Result ℕ Halt
length_by name text = or_fault (duration_of text) (IsNo name LengthOfTime)

-- the time that it writes (own)
abbrev pub time_by : Argument → List ℕ → Result ℕ Halt
time_by name text = or_fault (instant_of text) (IsNo name Time)

-- the plan, if it may be looked at: LEAD and LAG are no longer than the last time of a key file,
-- and FROM isn't after TO (own)
abbrev pub plan_allowed : Plan → Result Plan Halt
plan_allowed plan =
    if nat_lt greatest_time plan.lead then Err (Misused LongLead)
    else if nat_lt greatest_time plan.lag then Err (Misused LongLag)
    else if nat_lt plan.to plan.from then Err (Misused FromAfterTo)
    else Ok plan

-- the plan that the texts of LEAD, LAG, FROM and TO write (own)
abbrev pub plan_asked : (lead lag from to : List ℕ) → Result Plan Halt
plan_asked lead lag from to = do
  lead_read ← length_by Lead lead
  lag_read ← length_by Lag lag
  from_read ← time_by From from
  to_read ← time_by To to
  plan_allowed (record { lead = lead_read; lag = lag_read; from = from_read; to = to_read })

-- after how many seconds of the capture's own time the next table is due, if `--every` says it
-- (own)
abbrev pub every_asked : Option (List ℕ) → Result (Option ℕ) Halt
every_asked None = Ok None
every_asked (Some text) = length_by N text >>= λ every. Ok (Some every)

-- so many laps, if they are at most 255 (own)
abbrev pub few_laps : Option ℕ → Option ℕ
few_laps None = None
few_laps (Some laps) = if nat_le laps 255 then Some laps else None

-- over how many laps is searched: none without `--laps` (own)
abbrev pub laps_asked : Option (List ℕ) → Result ℕ Halt
laps_asked None = Ok 0
laps_asked (Some text) = or_fault (few_laps (decimal_of text)) (IsNo N Laps)

-- the number of the session that `--draw` names (own)
abbrev pub session_asked : List ℕ → Result ℕ Halt
session_asked text = or_fault (decimal_of text) (IsNo N SessionNumber)

-- a number from 1 (own)
abbrev pub from_one : Option ℕ → Option ℕ
from_one None = None
from_one (Some n) = if nat_lt 0 n then Some n else None

-- the number of the packet that `why` is asked for (own)
abbrev pub numbered_packet : List ℕ → Result ℕ Halt
numbered_packet text = or_fault (from_one (decimal_of text)) (IsNo N PacketNumber)

-- the time that an option says, or the one that stands for none (own)
abbrev pub bound_asked : Argument → (none : ℕ) → Option (List ℕ) → Result ℕ Halt
bound_asked name none None = Ok none
bound_asked name none (Some text) = time_by name text

-- the time that is drawn, if FROM isn't after TO (own)
abbrev pub time_allowed : DrawnTime → Result DrawnTime Halt
time_allowed within =
    if nat_lt within.to within.from then Err (Misused FromAfterTo) else Ok within

-- within which time segments are drawn that `--from` and `--to` say (own)
abbrev pub within_asked : (from to : Option (List ℕ)) → Result DrawnTime Halt
within_asked from to = do
  from_read ← bound_asked From 0 from
  to_read ← bound_asked To 18446744073709551615 to
  time_allowed (record { from = from_read; to = to_read })

-- a ladder is drawn beside nothing that is asked of a table (own)
abbrev pub drawn_alone : (json every all : Bool) → Result (Unit {0}) Halt
drawn_alone json every all = if json || (every || all) then Err (Misused DrawAndTable) else Ok tt

-- it is said which keys may go beside nothing that is asked of a table or a ladder (own)
abbrev pub retired_alone : (json all every draw : Bool) → Result (Unit {0}) Halt
retired_alone json all every draw =
    if json || (all || (every || draw)) then Err (Misused RetireAndMore) else Ok tt
