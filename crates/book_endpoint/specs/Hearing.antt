-- What an end hears of a segment that passed: its number against the window, its acknowledgement
-- and window, its FIN, and what a SYN tells (RFC 9293, section 3.10.7): the words of the table of
-- arrivals.
use Rattle.std.specs.Prelude.{ℕ, zero, suc, ◌+◌, ◌-◌, ◌*◌, ◌==◌, max, nat_lt, nat_le, Bool, true}
use Rattle.std.specs.Prelude.{false, ◌&&◌, ◌||◌, length, Option, Some, None, unwrap_or}
use Rattle.std.specs.Prelude.{if◌then◌else◌}
use Rattle.book_base.specs.declared.address.Pair.{Pair}
use Rattle.book_segments.specs.Options.{listed, options_of, mss_among}
use Rattle.book_segments.specs.Received.{runs}
use Rattle.book_segments.specs.Segments.{Segment, has, FIN}
use Rattle.book_endpoint.specs.declared.arrival.Arrival.{Arrival}
use Rattle.book_endpoint.specs.declared.arrival.Arrival.TheVariants.{Taken}
use Rattle.book_endpoint.specs.declared.phase.Phase.{Phase}
use Rattle.book_endpoint.specs.declared.phase.Phase.TheVariants.{Established, FinWait1, FinWait2}
use Rattle.book_endpoint.specs.declared.phase.Phase.TheVariants.{CloseWait, Closing, LastAck}
use Rattle.book_endpoint.specs.declared.phase.Phase.TheVariants.{TimeWait, Closed}
use Rattle.book_endpoint.specs.States.{EndState, window, default_mss}

-- The state after a segment that passed the check, and the answer (own).
pub record Moved : Type 0 where
  pub state : EndState
  pub answer : Arrival

-- A state with its answer (own).
abbrev pub answered : EndState → Arrival → Moved
answered s answer = record { state = s; answer = answer }

-- An ACK is owed (RFC 9293, section 3.10.7.4).
abbrev pub owing : EndState → EndState
owing s = record s { ack_owed = true }

-- A number that may be below 0 is above another (own).
abbrev pub above : Option ℕ → ℕ → Bool
above None n = false
above (Some a) n = nat_lt n a

-- The number is from low to below high (own).
abbrev pub in_range : (number low high : ℕ) → Bool
in_range n low high = nat_le low n && nat_lt n high

-- The segment at number n, of this length, is acceptable where RCV.NXT is x and RCV.WND is w (RFC
-- 9293, section 3.4).
abbrev pub fits_window : (number size expected window : ℕ) → Bool
fits_window n zero x w = if w == 0 then n == x else in_range n x (x + w)
fits_window n (suc l) x w =
    if w == 0 then false
    else (in_range n x (x + w) || in_range (n + l) x (x + w))

-- The maximum segment lifetime, in seconds: two minutes (RFC 9293, section 3.4.2).
abbrev pub segment_lifetime : ℕ
segment_lifetime = 120

-- Entering TIME-WAIT sets its deadline, twice the maximum segment lifetime on (RFC 9293, section
-- 3.4.2); it isn't set again (own).
abbrev pub rested : EndState → ℕ → Phase → Option ℕ → EndState
rested s now TimeWait None = record s { deadline = Some (now + 2 * segment_lifetime) }
rested s now _ _ = s

-- The segment is taken, and the time of TIME-WAIT runs where it was entered (RFC 9293, section
-- 3.10.7.4).
abbrev pub finish : EndState → ℕ → Moved
finish s now = answered (rested s now s.phase s.deadline) Taken

-- The phase once the peer's FIN is passed (RFC 9293, section 3.10.7.4, "check the FIN bit").
abbrev pub past_fin : Phase → Phase
past_fin Established = CloseWait
past_fin FinWait1 = Closing
past_fin FinWait2 = TimeWait
past_fin phase = phase

-- RCV.NXT moves past the peer's FIN where it has come to it (RFC 9293, section 3.10.7.4).
abbrev pub pass_fin : EndState → Option ℕ → EndState
pass_fin s None = s
pass_fin s (Some fin_at) =
    if fin_at == s.expected then record s { expected = fin_at + 1; phase = past_fin s.phase }
    else s

-- The FIN that is recorded is the first one (own).
abbrev pub fin_of : Option ℕ → Bool → ℕ → Option ℕ
fin_of (Some first) records new = Some first
fin_of None true new = Some new
fin_of None false new = None

-- A FIN at number f is recorded where it is in the window, and no byte that is kept stands at its
-- number or past it (own).
abbrev pub records_fin : EndState → (ℕ → Option ℕ) → Segment → ℕ → Bool
records_fin s kept d f =
    let high = s.expected + window s in
    has FIN d && in_range f s.expected high && (runs kept false f (high - f) == 0)

-- The phase once the own FIN is acknowledged (RFC 9293, section 3.10.7.4).
abbrev pub after_own_fin : Phase → Phase
after_own_fin FinWait1 = FinWait2
after_own_fin Closing = TimeWait
after_own_fin LastAck = Closed
after_own_fin phase = phase

-- An acknowledgement past the own FIN ends the own side (RFC 9293, section 3.10.7.4).
abbrev pub acked_fin : EndState → Option ℕ → EndState
acked_fin s ack =
    if above ack (s.isn + 1 + length s.given) then record s { phase = after_own_fin s.phase }
    else s

-- SND.WND is told by a segment that acknowledges no less than SND.UNA before it, and that isn't
-- older than the last that told it, by SND.WL1 and SND.WL2 (RFC 9293, section 3.10.7.4).
abbrev pub windowed : EndState → ℕ → Segment → ℕ → Option ℕ → EndState
windowed s old_una d n None = s
windowed s old_una d n (Some a) =
    if nat_le old_una a && (nat_lt s.wl1 n || ((s.wl1 == n) && nat_le s.wl2 a))
    then record s { send_window = d.window; wl1 = n; wl2 = a }
    else s

-- An acknowledgement above SND.UNA moves it (RFC 9293, section 3.10.7.4).
abbrev pub acked : EndState → Option ℕ → EndState
acked s None = s
acked s (Some a) = if nat_lt s.una a then record s { una = a } else s

-- The least maximum segment size that a peer is held to (own).
abbrev pub least_mss : ℕ
least_mss = 88

-- The peer's maximum segment size that its SYN tells (RFC 9293, section 3.7.1), at least the least
-- (own).
abbrev pub peer_mss : Pair → Segment → ℕ
peer_mss pair d =
    max least_mss
    (unwrap_or (mss_among (listed (options_of d.area))) (default_mss pair.local.address))

-- What a SYN tells (RFC 9293, section 3.10.7.2); its payload is ignored (own).
abbrev pub told_by_syn : Pair → EndState → Segment → ℕ → EndState
told_by_syn pair s d n = record s {
  peer_isn = Some n;
  expected = n + 1;
  mss = peer_mss pair d;
  send_window = d.window;
  wl1 = n;
  wl2 = s.isn;
}
