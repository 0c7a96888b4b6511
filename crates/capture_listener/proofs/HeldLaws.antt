-- What is known of connections that are held, and of no other.
use Rattle.std.proofs.Common.{List, []}
use Rattle.book_cmd_check.specs.Captures.{Connection}
use Rattle.book_sessions.specs.Listening.{Listening}
use Rattle.capture_listener.specs.Listeners.{Hearing, Knows}

-- what is known where these connections are held, and no more
abbrev pub holding : List Connection → Listening
holding held = record { held = held; guessed = []; openings = [] }

-- the listener knows them, and no more
abbrev pub KnowsHeld : Hearing → List Connection → Type 0
KnowsHeld l held = Knows l (holding held)
