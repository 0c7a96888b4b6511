-- A large run that is made from a number. Our own format. Its top is `storm_events`.
use Rattle.std.specs.Prelude.{ℕ, zero, suc, ◌+◌, ◌*◌, ◌/◌, ◌%◌, ◌==◌, List, [], ◌∷◌, ◌++◌}
use Rattle.std.specs.Prelude.{◌^◌, replicate, bit_xor, Option, Some, None, if◌then◌else◌}
use Rattle.book_base.specs.declared.address.Address.TheVariants.{V4}
use Rattle.book_base.specs.declared.algorithm.Algorithm.TheVariants.{HmacSha1}
use Rattle.book_base.specs.declared.end.End.{End}
use Rattle.book_base.specs.declared.end.End.TheVariants.{A, B}
use Rattle.book_keys.specs.Shared.{shared_row}
use Rattle.book_link.specs.declared.event.Event.{Event}
use Rattle.book_link.specs.declared.event.Event.TheVariants.{At}
use Rattle.book_link.specs.declared.event.Action.TheVariants.{Start, Fill, Send, Resend, Deliver}
use Rattle.book_link.specs.declared.event.Action.TheVariants.{Take}
use Rattle.book_link.specs.Worlds.{other, Setup, Made, World, segments, segment_named}
use Rattle.book_link.specs.Steps.{step}
use Rattle.book_link.specs.Runs.{empty, run_from}

-- how many words of 64 bits there are, 2^64 (own)
abbrev pub words_of_64 : ℕ
words_of_64 = 2 ^ 64

-- the state after a draw (SplitMix64)
abbrev pub drawn : ℕ → ℕ
drawn state = (state + 0x9e3779b97f4a7c15) % words_of_64

-- a number xored with itself shifted down, times a constant (SplitMix64)
abbrev pub xor_shifted : (number shift factor : ℕ) → ℕ
xor_shifted z shift factor = bit_xor z (z / shift) * factor % words_of_64

-- what a state draws: the shifts are by 30, 27 and 31 bits (SplitMix64)
unfoldable pub draw : ℕ → ℕ
draw state =
    let y = xor_shifted state 0x40000000 0xbf58476d1ce4e5b9 in
    let z = xor_shifted y 0x8000000 0x94d049bb133111eb in
    bit_xor z (z / 2 ^ 31)

-- the end that a draw names: an even number is for end a (own)
abbrev pub drawn_end : ℕ → End
drawn_end r = if r % 2 == 0 then A else B

-- the last segment is delivered to the end that didn't make it; where there is none, the end
-- sends (own)
abbrev pub last_delivered : End → Option Made → Event
last_delivered e None = At e Send
last_delivered e (Some m) = At (other m.maker) (Deliver m.name)

-- one of so many segments is delivered; where there is none, the end sends (own)
abbrev pub one_delivered : End → (count number : ℕ) → Event
one_delivered e zero v = At e Send
one_delivered e (suc n) v = At e (Deliver (1 + v % suc n))

-- the event that a draw makes of a world, by its kind and its number (own)
abbrev pub event_by : World → End → (kind v : ℕ) → Event
event_by w e kind v =
    if kind == 0 then At e (Fill (v % 1000) (v / 1000 % 256))
    else if kind == 1 then At e Send
    else if kind == 2 then At e Send
    else if kind == 3 then last_delivered e (segment_named (segments w.history) w.history)
    else if kind == 4 then last_delivered e (segment_named (segments w.history) w.history)
    else if kind == 5 then one_delivered e (segments w.history) v
    else if kind == 6 then At e Resend
    else At e (Take (v % 2000))

-- the event that a draw makes of a world: its end, its kind and its number are the draw's lowest
-- bit, the three bits above it, and the rest (own)
abbrev pub event_of : World → ℕ → Event
event_of w r = event_by w (drawn_end r) (r / 2 % 8) (r / 256)

-- so many events, each drawn after the ones before it were stepped (own)
abbrev pub events_drawn : Setup → World → (state count : ℕ) → List Event
events_drawn setup w state zero = []
events_drawn setup w state (suc n) =
    let event = event_of w (draw (drawn state)) in
    event ∷ events_drawn setup (step setup w event).world (drawn state) n

-- the link of a storm: two ends over IPv4 that share a key (own)
abbrev pub storm_setup : Setup
storm_setup = let row = shared_row HmacSha1 (replicate 20 11) in
    record {
      a = record { address = V4 (10 ∷ 0 ∷ 0 ∷ 1 ∷ []); port = 1000 };
      b = record { address = V4 (10 ∷ 0 ∷ 0 ∷ 2 ∷ []); port = 2000 };
      a_rows = row ∷ [];
      b_rows = row ∷ [];
    }

-- both ends of a storm begin established, soon before a lap of the sequence numbers (own)
abbrev pub storm_starts : List Event
storm_starts = At A (Start 4294960000 4000000000) ∷ At B (Start 4000000000 4294960000) ∷ []

-- the events of the storm from a seed, so many of them drawn (own)
unfoldable pub storm_events : (seed count : ℕ) → List Event
storm_events seed count =
    storm_starts
    ++ events_drawn storm_setup (run_from storm_setup (empty storm_setup) storm_starts) seed count
