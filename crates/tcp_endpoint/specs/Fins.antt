-- The peer's FIN, where it is passed.
use Rattle.std.specs.Prelude.{ℕ, ◌+◌, ◌==◌, Bool, true, false, Option, Some, None}
use Rattle.book_endpoint.specs.declared.phase.Phase.{Phase}
use Rattle.book_endpoint.specs.Hearing.{past_fin}

-- a FIN stands at the number
abbrev pub is_at : Option ℕ → ℕ → Bool
is_at None n = false
is_at (Some f) n = f == n

-- the number behind one, where it is passed
abbrev pub past_or : Bool → ℕ → ℕ
past_or true n = n + 1
past_or false n = n

-- the phase, where a FIN is passed
abbrev pub phase_past : Bool → Phase → Phase
phase_past true phase = past_fin phase
phase_past false phase = phase
