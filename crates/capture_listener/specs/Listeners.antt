-- A listener: how it judges, and what it knows while a capture is heard (own).
use Rattle.std.specs.Prelude.{◌≡◌, ℕ, ◌⊎◌, List, Ok, option_map}
use Rattle.capture_listener.specs.declared.openings.KeptOpening.{KeptOpening}
use Rattle.book_base.specs.declared.address.Pair.{Pair}
use Rattle.book_segments.specs.Segments.{Segment}
use Rattle.book_cmd_check.specs.Captures.{Connection}
use Rattle.capture_listener.specs.declared.outcomes.HeardSegment.{HeardSegment}
use Rattle.book_sessions.specs.Glimpses.{Opening, glimpsed, openings_after}
use Rattle.book_sessions.specs.Laps.{Judging, hear_over}
use Rattle.book_sessions.specs.Listening.{Listened, Listening, said_of}
use Rattle.book_sessions.specs.Sessions.{seen_pass}
use Rattle.capture_check.specs.declared.flows.Flows.{Flows}
use Rattle.capture_check.specs.Checkers.{StandsFor}
use Rattle.capture_listener.specs.Openings.{KeepsOpenings}

-- a listener is: how it judges, what it knows of the connections held and of those that are taken
-- to have begun, and the openings (own)
pub record Hearing : Type 0 where
  pub judging : Judging
  pub held : List (Pair × Flows)
  pub guessed : List (Pair × Flows)
  pub openings : List (Pair × KeptOpening)

-- the listener knows what is known (own)
pub record Knows (l : Hearing) (k : Listening) : Type 0 where
  pub held : StandsFor l.held k.held
  pub guessed : StandsFor l.guessed k.guessed
  pub openings : KeepsOpenings l.openings k.openings

-- the answer is what comes of a segment and what was found of it, and the listener knows what is
-- known after it (own)
pub record Listens (after : Hearing) (told : HeardSegment) (d : Segment) (l : Listened) : Type 0 where
  pub outcome : l.outcome ≡ Ok told.outcome
  pub pass : told.pass ≡ option_map (seen_pass d l.listening.held) l.pass
  pub knows : Knows after l.listening

-- what is taken to have begun once a segment was seen (own)
abbrev pub seen_to_begin : Judging → Listening → ℕ → Segment → List Connection
seen_to_begin j k now d = glimpsed d (said_of j k now d) k.openings k.guessed

-- the SYNs without ACK that were seen, once a segment was (own)
abbrev pub seen_to_open : Judging → Listening → ℕ → Segment → List Opening
seen_to_open j k now d = openings_after d (hear_over j k.held now d).saying k.openings

-- want of memory: the listener knows what was known, but perhaps too what the segment shows to have
-- begun, and what it opens (own)
pub record KnowsStill
    (after : Hearing) (j : Judging) (k : Listening) (now : ℕ) (d : Segment) : Type 0 where
  pub guessed : List Connection
  pub begun : (guessed ≡ k.guessed) ⊎ (guessed ≡ seen_to_begin j k now d)
  pub openings : List Opening
  pub opened : (openings ≡ k.openings) ⊎ (openings ≡ seen_to_open j k now d)
  pub knows : Knows after (record { held = k.held; guessed = guessed; openings = openings })
