-- What a wait brings about by itself on a link with retransmission timers. Our own law, over
-- RFC 6298.
use Rattle.std.specs.Prelude.{◌≡◌, ℕ, ◌+◌, ◌<◌, ◌≤◌, min, List, ◌∷◌, Some}
use Rattle.book_base.specs.declared.end.End.{End}
use Rattle.book_keys.specs.Lifetimes.{greatest_time}
use Rattle.book_link.specs.declared.event.Event.{Event}
use Rattle.book_link.specs.declared.event.Event.TheVariants.{At}
use Rattle.book_link.specs.declared.event.Action.TheVariants.{Clock, Resend}
use Rattle.book_link.specs.Worlds.{Setup}
use Rattle.book_cmd_link.specs.declared.timed.TimedEvent.TheVariants.{Wait}
use Rattle.book_link.specs.SendFronts.{SendFront, front_at}
use Rattle.book_cmd_link.specs.TimedRuns.{Progress, reading_at, due_at}
use Rattle.book_cmd_link.specs.TimedRuns.{timed_event}

-- so many seconds from now reach to this reading (own)
abbrev pub Reaches : Progress → End → ℕ → ℕ → Type 0
Reaches p e count d = d ≤ min (reading_at p e + count) greatest_time

-- the first two events of a wait of so many seconds: the clock goes to this reading, and the end
-- sends again (RFC 6298, section 5.4)
abbrev pub BeginsAgain : Setup → Progress → End → ℕ → ℕ → Type 0
BeginsAgain setup p e count d =
    (rest : List Event)
    × ((timed_event setup p (Wait e count)).events ≡ At e (Clock d) ∷ At e Resend ∷ rest)

-- where something that an end sent isn't acknowledged, its timer runs, and each wait that reaches
-- to its expiry sends again (RFC 6298, sections 5.1 and 5.4)
abbrev pub WaitsResend : Setup → Progress → Type 0
WaitsResend setup p =
    (e : End) (f : SendFront) → front_at p.world e ≡ Some f → f.una < f.next
    → (d : ℕ) × (due_at p e ≡ Some d)
    × ((count : ℕ) → Reaches p e count d → BeginsAgain setup p e count d)
